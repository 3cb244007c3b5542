-- Counting active joints. Assumes nothing.
use mathlib.Core.Bool.{Bool, true, false, cond}
use mathlib.Core.List.{List}
use mathlib.Core.Path.{◌≡◌}
use Prim.Native.Nat.{ℕ, zero, suc, ◌+◌, ◌-◌, ◌≤◌, ◌<◌}
use native.Mathlib.Nat.{add-zero, add-suc}
use native.Mathlib.Numerals.{add-one}
use native.Mathlib.Omega.{arith}
use borrow.Author.Tests.{eq-eqb, ne_eqb}
use lib.Dec.{eqb}
use Rattle.arm.specs.Model.{kind_of}
use Rattle.arm.specs.Topology.{actives_of}

module _ (kinds : List ℕ) where
  pub actives-active : (j : ℕ) → (kind_of kinds j ≡ 2 → ⊥) → actives_of kinds (j + 1) ≡ actives_of kinds j + 1
  unfolding actives_of
  actives-active j f = rw add-one (simp (ne_eqb _ _ f))

  pub actives-fixed : (j : ℕ) → kind_of kinds j ≡ 2 → actives_of kinds (j + 1) ≡ actives_of kinds j
  unfolding actives_of
  actives-fixed j e = rw add-one (simp (eq-eqb _ _ e) (omega arith))

  actives-mono : (j k : ℕ) → actives_of kinds j ≤ actives_of kinds (j + k)
  unfolding actives_of
  actives-mono j zero = rw add-zero (omega arith)
  actives-mono j (suc k) = rw add-suc (omega (arith, actives-mono j k))

  pub actives-le : (j : ℕ) → actives_of kinds j ≤ j
  unfolding actives_of
  actives-le zero = omega arith
  actives-le (suc j) = omega (arith, actives-le j, at_most_one (eqb (kind_of kinds j) 2))
    where
      at_most_one : (b : Bool) → cond b 0 1 ≤ 1
      at_most_one true = omega arith
      at_most_one false = omega arith

  -- an active joint's number is below their count
  pub actives-below : (n j : ℕ) → j < n → (kind_of kinds j ≡ 2 → ⊥) → actives_of kinds j < actives_of kinds n
  actives-below n j h f =
      let e : j + 1 + (n - (j + 1)) ≡ n = omega arith in
      omega (arith, actives-active j f, rw e at (actives-mono (j + 1) (n - (j + 1))))

-- the bounds on an active number
pub ruleset bounds = (actives-le, actives-below)
