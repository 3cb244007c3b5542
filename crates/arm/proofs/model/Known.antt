-- What a model that has none of the causes 1, 3 and 4 tells. Assumes nothing.
use mathlib.Core.Bool.{Bool, true, false, ◌||◌, cond, true≢false}
use mathlib.Core.List.{List}
use mathlib.Core.Path.{◌≡◌, refl}
use Prim.Native.Nat.{ℕ, zero, suc, ◌*◌, ◌≤◌, ◌<◌}
use native.Mathlib.Numerals.{add-one}
use native.Mathlib.Omega.{arith}
use borrow.Author.Tests.{ltb-false}
use lib.Dec.{ltb}
use lib.Ieee.{Float}
use Rattle.std.proofs.lemmas.Bool.{or_parts}
use Rattle.std.specs.List.{list_any, range_with_len}
use Rattle.std.specs.Prelude.{Option, Some, None}
use Rattle.numbers.specs.declared.vec3.Vec3.{Vec3}
use Rattle.refusals.specs.Refusals.{scan, lowest, found}
use Rattle.refusals.proofs.Searches.{lowest-none}
use Rattle.slots.specs.Slots.{vec3_at}
use Rattle.arm.specs.Joint.{MotionIs, motion_by}
use Rattle.arm.specs.Model.{Good, kind_of, motion_of, bad_parent, bad_kind, wild_joint, wild_of}
use Rattle.arm.specs.declared.joint.Motion.{Motion}

-- the motion of a known kind has that kind and the axis of a turn or a slide
motion-is : (kind : ℕ) (axis : Vec3) → kind ≤ 2 → MotionIs kind axis (motion_by kind axis)
unfolding motion_by
motion-is zero axis h = record { number = refl; values = refl }
motion-is (suc zero) axis h = record { number = refl; values = refl }
motion-is (suc (suc zero)) axis h = record { number = refl; values = refl }
motion-is (suc (suc (suc kind))) axis h = absurd (omega arith)

pub motion-at-is : (kinds : List ℕ) (axes : List Float) (j : ℕ) {motion : Motion} → motion ≡ motion_of kinds axes j → kind_of kinds j ≤ 2 → MotionIs (kind_of kinds j) (vec3_at axes (j * 3)) motion
unfolding motion_of
motion-at-is kinds axes j e h = rw e (motion-is _ _ h)

-- ---- refusal 9

-- whether one of the numbers below n is bad, asked of each
found_at : (b : Bool) (i : ℕ) (r : Option ℕ) → (b || found r) ≡ found (cond b (Some i) r)
unfolding found
found_at true i r = refl
found_at false i r = refl

found_from : (bad : ℕ → Bool) (k i : ℕ) → list_any bad (range_with_len i k) ≡ found (scan bad k i)
unfolding scan found
found_from bad zero i = refl
found_from bad (suc k) i = rw (← found_at (bad i) i (scan bad k (suc i)), add-one, found_from bad k (suc i))

pub any_found : (bad : ℕ → Bool) (n : ℕ) → list_any bad (range_with_len 0 n) ≡ found (lowest bad n)
unfolding lowest
any_found bad n = found_from bad n 0

none : (p : Option ℕ) → found p ≡ false → p ≡ None
unfolding found
none (Some j) e = absurd (true≢false e)
none None e = refl

pub tame : (n : ℕ) (parents kinds : List ℕ) → wild_of n parents kinds ≡ false → Good n parents kinds
unfolding wild_of wild_joint
tame n parents kinds e =
    let b = or_parts (ltb 32 n) (found (lowest (wild_joint parents kinds) n)) e in
    let clear : (j : ℕ) → j < n → (bad_parent parents j ≡ false) × (bad_kind kinds j ≡ false) = λ j g. or_parts _ _ (lowest-none (wild_joint parents kinds) n (none _ b.1) j g) in
    record {
      tree = record { few = ltb-false 32 n b.0; below = λ j g. ltb-false _ _ (clear j g).0 };
      known = λ j g. ltb-false _ _ (clear j g).1;
    }
