-- Every active number is some joint's, and the search finds that joint. Assumes nothing.
use mathlib.Core.Bool.{Bool, true, false, not, cond, ◌&&◌, true≢false}
use mathlib.Core.List.{List}
use mathlib.Core.Logic.{⊎_elim}
use mathlib.Core.Path.{◌≡◌, refl, sym, ◌∙◌}
use Prim.Native.Nat.{ℕ, zero, suc, ◌+◌, ◌≤◌, ◌<◌}
use native.Mathlib.Nat.{eq-or-lt_of_le}
use native.Mathlib.Omega.{arith}
use borrow.Author.Tests.{eqb-true, eqb-false, eq-eqb, ne_eqb}
use lib.Dec.{eqb}
use Rattle.std.proofs.lemmas.Bool.{cases_lt}
use Rattle.std.specs.Option.{MatchOption}
use Rattle.std.specs.Prelude.{Option, Some, None}
use Rattle.refusals.proofs.Searches.{Looks, looks-hit, looks-last, looks-past, lowest-some, lowest-none}
use Rattle.arm.specs.Joint.{is_fixed}
use Rattle.arm.specs.Model.{kind_of}
use Rattle.arm.specs.Topology.{actives_of, holds_of, active_joint, Numbered}
use Rattle.arm.proofs.topology.Counts.{actives-le}

both_true : (a b : Bool) → (not a && b) ≡ true → (a ≡ false) × (b ≡ true)
both_true true b e = absurd (true≢false (sym e))
both_true false b e = (refl, e)

module _ (kinds : List ℕ) where
  -- what the test says of a joint
  held : (k j : ℕ) → holds_of kinds k j ≡ true → (kind_of kinds j ≡ 2 → ⊥) × (actives_of kinds j ≡ k)
  unfolding holds_of
  held k j e =
      let b = both_true (is_fixed (kind_of kinds j)) (eqb (actives_of kinds j) k) e in
      (eqb-false (kind_of kinds j) 2 b.0, eqb-true (actives_of kinds j) k b.1)

  holds-it : (k j : ℕ) → (kind_of kinds j ≡ 2 → ⊥) → actives_of kinds j ≡ k → holds_of kinds k j ≡ true
  unfolding holds_of
  holds-it k j f e = simp (ne_eqb (kind_of kinds j) 2 f, eq-eqb (actives_of kinds j) k e)

  -- none below joint k has number k
  not-below : (k j : ℕ) → j < k → holds_of kinds k j ≡ false
  not-below k j h = go (holds_of kinds k j) refl
    where
      go : (b : Bool) → holds_of kinds k j ≡ b → b ≡ false
      go true e = absurd (omega (arith, (held k j e).1, actives-le kinds j))
      go false e = refl

  -- so the search may begin there
  pub begins : (n k : ℕ) → k ≤ n → Looks (holds_of kinds k) n (active_joint kinds n k) k
  unfolding active_joint
  begins n k h = looks-past (holds_of kinds k) n k h (not-below k)

  -- and where it finds none, none has number k
  clear : (k n : ℕ) → ((j : ℕ) → k ≤ j → j < n → holds_of kinds k j ≡ false) → (j : ℕ) → j < n → holds_of kinds k j ≡ false
  clear k n f j h = ⊎_elim (not-below k j) (λ g. f j g h) (cases_lt j k)

  pub searched : (n k : ℕ) (r : Option ℕ)
      → MatchOption r ((j : ℕ) → k ≤ j → j < n → holds_of kinds k j ≡ false) (λ i. (k ≤ i) × (i < n) × (holds_of kinds k i ≡ true) × ((j : ℕ) → k ≤ j → j < i → holds_of kinds k j ≡ false))
      → r ≡ active_joint kinds n k
  unfolding active_joint
  searched n k None f = looks-last (holds_of kinds k) n _ n (looks-past (holds_of kinds k) n n (omega arith) (clear k n f)) (omega arith)
  searched n k (Some i) (a, b, e, f) = looks-hit (holds_of kinds k) n _ i (looks-past (holds_of kinds k) n i (omega arith) (clear k i f)) b e

  -- each number below the count is some joint's
  has-joint : (n k : ℕ) → k < actives_of kinds n → (j : ℕ) × Numbered kinds n k j
  unfolding actives_of
  has-joint zero k h = absurd (omega arith)
  has-joint (suc m) k h = go (is_fixed (kind_of kinds m)) (eqb-false (kind_of kinds m) 2) h (λ less. has-joint m k less)
    where
      lower : ((j : ℕ) × Numbered kinds m k j) → (j : ℕ) × Numbered kinds (suc m) k j
      lower (j, s) = (j, record { joint = omega (arith, s.joint); active = s.active; number = s.number })

      go : (b : Bool) → (b ≡ false → kind_of kinds m ≡ 2 → ⊥) → k < actives_of kinds m + cond b 0 1 → (k < actives_of kinds m → (j : ℕ) × Numbered kinds m k j) → (j : ℕ) × Numbered kinds (suc m) k j
      go true f g below = lower (below (omega arith))
      go false f g below =
          ⊎_elim
          (λ (e : k ≡ actives_of kinds m). (m, record { joint = omega arith; active = f refl; number = sym e }))
          (λ less. lower (below less)) (eq-or-lt_of_le (omega arith))

  -- what the search finds has the number
  pub found-is : (n k j : ℕ) → active_joint kinds n k ≡ Some j → Numbered kinds n k j
  unfolding active_joint
  found-is n k j e =
      let s = lowest-some (holds_of kinds k) n j e in
      let h = held k j s.0 in
      record { joint = s.1; active = h.0; number = h.1 }

  -- EVERY ACTIVE NUMBER IS FOUND: for each k below a the search finds its joint
  pub numbered : (n k : ℕ) → k < actives_of kinds n → (j : ℕ) × (active_joint kinds n k ≡ Some j) × Numbered kinds n k j
  unfolding active_joint
  numbered n k h = go (active_joint kinds n k) refl
    where
      go : (r : Option ℕ) → active_joint kinds n k ≡ r → (j : ℕ) × (r ≡ Some j) × Numbered kinds n k j
      go (Some j) e = (j, refl, found-is n k j e)
      go None e =
          let (j, s) = has-joint n k h in
          absurd (true≢false (sym (holds-it k j s.active s.number) ∙ lowest-none (holds_of kinds k) n e j s.joint))
