-- The walk up, a joint at a time, as the code does it. Assumes nothing.
use mathlib.Core.Bool.{cond}
use mathlib.Core.Path.{◌≡◌, refl}
use Prim.Native.Nat.{ℕ, zero, suc, ◌-◌, ◌≤◌, ◌<◌}
use native.Mathlib.Omega.{arith}
use borrow.Author.Tests.{eqb-false, eq-eqb, ne_eqb}
use lib.Dec.{eqb}
use lib.Ieee.{Float}
use Rattle.spatial.specs.Operators.{wrench_to_parent}
use Rattle.spatial.specs.declared.wrench.Wrench.{Wrench}
use Rattle.arm.specs.Joint.{with_rotor}
use Rattle.composites.specs.Composite.{entry_of}
use Rattle.plain_entries.specs.Arm.{Arm}
use Rattle.plain_entries.specs.Entries.{along, to_root}
use Rattle.plain_entries.proofs.Depths.{choice}

module _ (a : Arm) (below : (j : ℕ) → j < a.n → a.parent j ≤ j) where
  -- any two counts that are enough give the same
  along-same : (other : Float) (i k k' j : ℕ) (w : Wrench) → j < a.n → j < k → j < k' → along a other k j i w ≡ along a other k' j i w
  unfolding along
  along-same other i zero k' j w h g g' = absurd (omega arith)
  along-same other i (suc k) zero j w h g g' = absurd (omega arith)
  along-same other i (suc k) (suc k') j w h g g' =
      let low = below j h in
      choice (eqb j i) (eqb j i) refl (λ t. refl) (λ t.
      choice (eqb (a.parent j) 0) (eqb (a.parent j) 0) refl (λ u. refl) (λ u.
      let z = eqb-false (a.parent j) 0 u in
      along-same other i k k' (a.parent j - 1) (wrench_to_parent (a.frame j) w) (omega arith) (omega arith) (omega arith)))

  root-same : (k k' j : ℕ) (w : Wrench) → j < a.n → j < k → j < k' → to_root a k j w ≡ to_root a k' j w
  unfolding to_root
  root-same zero k' j w h g g' = absurd (omega arith)
  root-same (suc k) zero j w h g g' = absurd (omega arith)
  root-same (suc k) (suc k') j w h g g' =
      let low = below j h in
      choice (eqb (a.parent j) 0) (eqb (a.parent j) 0) refl (λ u. refl) (λ u.
      let z = eqb-false (a.parent j) 0 u in
      root-same k k' (a.parent j - 1) (wrench_to_parent (a.frame j) w) (omega arith) (omega arith) (omega arith))

  module _ (j : ℕ) (w : Wrench) where
    pub along-here : (other : Float) (i : ℕ) → j ≡ i → entry_of (a.motion i) w ≡ along a other (suc j) j i w
    unfolding along
    along-here other i e = rw (eq-eqb j i e)

    pub along-ends : (other : Float) (i : ℕ) → (j ≡ i → ⊥) → a.parent j ≡ 0 → other ≡ along a other (suc j) j i w
    unfolding along
    along-ends other i e z = rw (ne_eqb j i e, eq-eqb (a.parent j) 0 z)

    pub along-goes : (other : Float) (i : ℕ) → j < a.n → (j ≡ i → ⊥) → (a.parent j ≡ 0 → ⊥)
        → along a other (suc (a.parent j - 1)) (a.parent j - 1) i (wrench_to_parent (a.frame j) w) ≡ along a other (suc j) j i w
    unfolding along
    along-goes other i h e z =
        let low = below j h in
        rw (ne_eqb j i e, ne_eqb (a.parent j) 0 z)
        (along-same other i (suc (a.parent j - 1)) j (a.parent j - 1) (wrench_to_parent (a.frame j) w) (omega arith) (omega arith) (omega arith))

    pub root_ends : a.parent j ≡ 0 → wrench_to_parent (a.frame j) w ≡ to_root a (suc j) j w
    unfolding to_root
    root_ends z = rw (eq-eqb (a.parent j) 0 z)

    pub root-goes : j < a.n → (a.parent j ≡ 0 → ⊥) → to_root a (suc (a.parent j - 1)) (a.parent j - 1) (wrench_to_parent (a.frame j) w) ≡ to_root a (suc j) j w
    unfolding to_root
    root-goes h z =
        let low = below j h in
        rw (ne_eqb (a.parent j) 0 z)
        (root-same (suc (a.parent j - 1)) j (a.parent j - 1) (wrench_to_parent (a.frame j) w) (omega arith) (omega arith) (omega arith))

-- ---- the rotor on the diagonal

module _ (rotor x : Float) (J I : ℕ) where
  pub own : J ≡ I → with_rotor rotor x ≡ cond (eqb J I) (with_rotor rotor x) x
  own e = rw (eq-eqb J I e)

  pub not_own : (J ≡ I → ⊥) → x ≡ cond (eqb J I) (with_rotor rotor x) x
  not_own e = rw (ne_eqb J I e)
