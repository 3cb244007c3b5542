-- `find` over a range, in the words of the definitions.
use Rattle.std.proofs.Common.{◌≡◌, ℕ, zero, suc, ◌+◌, ◌-◌, ◌<◌, ◌≤◌, Bool, true, false, cond, Option, Some, None, refl, sym, ◌∙◌, arith, add-one}
use Rattle.std.specs.declared.ops.Range.{Range}
use Rattle.std.specs.Fn.{CalledAt}
use Rattle.std.specs.Iterator.{YieldsThen}
use Rattle.std.specs.List.{FoldsTo}
use Rattle.std.specs.Option.{MatchOption}
use Rattle.std.specs.Bool.{⊤}
use Rattle.std.proofs.iter.Yields.{nat_range_steps}
use Rattle.std.proofs.lemmas.Iterator.{first_from_Range}
use denote.Param.Members.{Mut}
use denote.Ref.{Bor}
use mathlib.Core.List.{List}
use mathlib.Core.Logic.{⊎_elim}
use native.Mathlib.Nat.{eq-or-lt_of_le}
use Rattle.refusals.specs.Refusals.{scan, lowest}

module _ (bad : ℕ → Bool) where
  scan_none : (k i : ℕ) → ((j : ℕ) → i ≤ j → j < i + k → bad j ≡ false) → scan bad k i ≡ None
  unfolding scan
  scan_none zero i h = refl
  scan_none (suc k) i h = let e = h i (omega arith) (omega arith) in rw e (scan_none k (suc i) (λ j a b. h j (omega arith) (omega arith)))

  scan_hit : (k i m : ℕ) → ((j : ℕ) → i ≤ j → j < m → bad j ≡ false) → i ≤ m → m < i + k → bad m ≡ true → scan bad k i ≡ Some m
  unfolding scan
  scan_hit zero i m h a b e = absurd (omega arith)
  scan_hit (suc k) i m h a b e =
      ⊎_elim
      (λ q. rw q (rw e refl))
      (λ q. let z = h i (omega arith) q in rw z (scan_hit k (suc i) m (λ j c d. h j (omega arith) d) (omega arith) (omega arith) e))
      (eq-or-lt_of_le a)

  told : (n : ℕ) (r : Option ℕ) → MatchOption r ((k : ℕ) → 0 ≤ k → k < n → bad k ≡ false) (λ i. (0 ≤ i) × (i < n) × (bad i ≡ true) × ((k : ℕ) → 0 ≤ k → k < i → bad k ≡ false)) → r ≡ lowest bad n
  unfolding lowest
  told n None m = sym (scan_none n 0 (λ j a b. m j (omega arith) (omega arith)))
  told n (Some i) (a, b, e, f) = sym (scan_hit n 0 i (λ j c d. f j c d) (omega arith) (omega arith) e)

  pub lowest_found : {F : Type 0} {g : Mut F (Bor ℕ × Unit {0}) Bool} (n : ℕ) (u : Range ℕ) (f : F) (r : Option ℕ) → (xs : List ℕ) × (j : F) × YieldsThen nat_range_steps (record { start = 0; end = n }) xs r u × FoldsTo (λ p x q. CalledAt g p x false q) f xs j × MatchOption r ⊤ (λ x. (h : F) × CalledAt g j x true h) → ((x : ℕ) (q : F) → CalledAt g f x true q → bad x ≡ true) → ((x : ℕ) (q : F) → CalledAt g f x false q → (q ≡ f) × (bad x ≡ false)) → r ≡ lowest bad n
  lowest_found n u f r ran hit miss = told n r (first_from_Range (record { start = 0; end = n }) u f r (λ x. bad x ≡ true) (λ x. bad x ≡ false) ran hit miss)
