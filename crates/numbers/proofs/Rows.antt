-- A table of 36 that is filled from the front, row by row: what the loop over the rows and the loop over a row's six keep. Assumes nothing.
use mathlib.Core.Path.{◌≡◌, sym, ap, ◌∙◌}
use mathlib.Core.List.{List, [], ◌∷◌, ◌++◌}
use Prim.Native.Nat.{ℕ, suc, ◌+◌, ◌*◌, ◌/◌, ◌%◌, ◌≤◌, ◌<◌}
use native.Mathlib.Omega.{arith}
use lib.ListN.{length, get_or, set, take}
use lib.Seq.{take-suc, take-suc-set, take_all}
use Rattle.numbers.specs.Table.{tab}
use Rattle.numbers.proofs.Tables.{length-tab, get_or-tab}

-- one more element that is the table's
one_more : {A : Type 0} (m t : List A) (k : ℕ) (x : A) → k < length m → k < length t → take k m ≡ take k t → x ≡ get_or t k x → take (suc k) (set m k x) ≡ take (suc k) t
one_more {A = A} m t k x a b h e =
    take-suc-set m k x a
    ∙ ap (λ (r : List A). r ++ x ∷ []) h
    ∙ ap (λ (y : A). take k t ++ y ∷ []) e
    ∙ sym (take-suc t k x b)

-- element t stands in row t / 6 and column t % 6
module _ {A : Type 0} (g : ℕ → ℕ → ℕ → A) where
  abbrev at : ℕ → A
  at t = g t (t / 6) (t % 6)

  -- element j of row i
  pub next : (m : List A) (i j : ℕ) → length m ≡ 36 → i < 6 → j < 6 → take (i * 6 + j) m ≡ take (i * 6 + j) (tab at 36) → take (i * 6 + (j + 1)) (set m (i * 6 + j) (g (i * 6 + j) i j)) ≡ take (i * 6 + (j + 1)) (tab at 36)
  next m i j l a b h =
      let k : ℕ = i * 6 + j in
      let x : A = g k i j in
      let n = length-tab at 36 in
      let r : k / 6 ≡ i = omega arith in
      let c : k % 6 ≡ j = omega arith in
      let p : k < 36 = omega arith in
      let s : i * 6 + (j + 1) ≡ suc k = omega arith in
      let e : get_or (tab at 36) k x ≡ x = get_or-tab at x 36 k p ∙ ap (λ (y : ℕ). g k y (k % 6)) r ∙ ap (λ (y : ℕ). g k i y) c in
      rw s (one_more m (tab at 36) k x (omega (arith, l)) (omega (arith, n)) h (sym e))

  -- all rows
  pub full : (m : List A) (k : ℕ) → length m ≡ 36 → 36 ≤ k → take k m ≡ take k (tab at 36) → m ≡ tab at 36
  full m k l a h = sym (take_all k m (omega (arith, l))) ∙ h ∙ take_all k (tab at 36) (omega (arith, length-tab at 36))
