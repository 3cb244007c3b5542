-- A list by its index, read. Assumes nothing.
use mathlib.Core.List.{[], ◌∷◌}
use mathlib.Core.Logic.{◌⊎◌, ⊎_elim}
use mathlib.Core.Path.{◌≡◌, refl, ◌∙◌}
use Prim.Native.Nat.{ℕ, zero, suc, ◌<◌}
use native.Mathlib.Nat.{eq-or-lt_of_le}
use native.Mathlib.Omega.{arith}
use lib.ListN.{length, get_or, length-append, get_or-append}
use lib.Seq.{get_or_at}
use Rattle.numbers.specs.Table.{tab}

module _ {A : Type 0} (f : ℕ → A) where
  pub length-tab : (n : ℕ) → length (tab f n) ≡ n
  unfolding tab
  length-tab zero = refl
  length-tab (suc n) = length-append (tab f n) (f n ∷ []) ∙ omega (arith, length-tab n)

  pub get_or-tab : (d : A) (n i : ℕ) → i < n → get_or (tab f n) i d ≡ f i
  unfolding tab
  get_or-tab d zero i h = absurd (omega arith)
  get_or-tab d (suc n) i h =
      let l = length-tab n in
      ⊎_elim
      (λ e. rw e (get_or_at (tab f n) (f n) [] d n l))
      (λ g. get_or-append (tab f n) (f n ∷ []) d i (omega arith) ∙ get_or-tab d n i g)
      (i-or n i h)
    where
      i-or : (n i : ℕ) → i < suc n → (i ≡ n) ⊎ (i < n)
      i-or n i h = eq-or-lt_of_le (omega arith)
