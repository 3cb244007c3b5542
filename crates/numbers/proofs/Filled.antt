-- A list that is filled from the front, one store a turn: what any loop of that kind keeps. Assumes nothing.
use mathlib.Core.Path.{◌≡◌, refl, sym, ap, ◌∙◌, subst}
use mathlib.Core.List.{List, [], ◌∷◌, ◌++◌}
use Prim.Native.Nat.{ℕ, ◌+◌, ◌≤◌, ◌<◌}
use native.Mathlib.Nat.{le_of_eq, le_antisymm}
use native.Mathlib.Numerals.{add-one}
use lib.ListN.{length, set, take, length-set}
use lib.Seq.{take-suc-set, take_all}
use Rattle.numbers.specs.Table.{tab}

-- the first t of the n elements are f 0, .., f (t - 1)
pub record Filled {A : Type 0} (f : ℕ → A) (n : ℕ) (m : List A) (t : ℕ) : Type 0 where
  pub size : length m ≡ n
  pub front : take t m ≡ tab f t
  pub within : t ≤ n

pub none : {A : Type 0} (f : ℕ → A) (n : ℕ) (m : List A) → length m ≡ n → 0 ≤ n → Filled f n m 0
unfolding tab
none f n m e h = record { size = e; front = refl; within = h }

pub more : {A : Type 0} (f : ℕ → A) (n : ℕ) (m : List A) (t : ℕ) (x : A) → Filled f n m t → t < n → x ≡ f t → Filled f n (set m t x) (t + 1)
unfolding tab
more {A = A} f n m t x h l e =
    record {
      size = length-set m t x ∙ h.size;
      front =
          ap (λ (k : ℕ). take k (set m t x)) (add-one t)
          ∙ take-suc-set m t x (subst (λ (k : ℕ). t < k) (sym h.size) l)
          ∙ ap (λ (r : List A). r ++ x ∷ []) h.front
          ∙ ap (λ (y : A). tab f t ++ y ∷ []) e
          ∙ sym (ap (tab f) (add-one t));
      within = subst (λ (k : ℕ). k ≤ n) (sym (add-one t)) l;
    }

pub full : {A : Type 0} (f : ℕ → A) (n : ℕ) (m : List A) (t : ℕ) → Filled f n m t → n ≤ t → m ≡ tab f n
full f n m t h l = sym (take_all n m (le_of_eq h.size)) ∙ ap (λ (k : ℕ). take k m) (le_antisymm l h.within) ∙ h.front ∙ ap (tab f) (le_antisymm h.within l)
