-- The checks of forward dynamics to 22 (document 01, "Refusal numbers"). Definitions only.
use Rattle.std.specs.Prelude.{Bool, not, cond, ◌||◌, List, ℕ, zero, suc, ◌*◌, eqb, ltb, length, get_or, Float, Option, Some, None}
use Rattle.std.specs.Float.{nan}
use Rattle.numbers.specs.Double.{finite}
use Rattle.numbers.specs.declared.quaternion.Quaternion.{Quaternion}
use Rattle.refusals.specs.Refusals.{lowest, named_of, plain_of, or_else, Verdict}
use Rattle.spatial.specs.Twist.{finite_of}
use Rattle.spatial.specs.Wrench.{finite_of as wrench_finite}
use Rattle.spatial.specs.declared.twist.Twist.{Twist}
use Rattle.slots.specs.Slots.{wrench_at}
use Rattle.arm.specs.Model.{wild_of}
use Rattle.calls.specs.Checks.{values_verdict, turns_verdict, bad_rotation}
use Rattle.calls.specs.Plan.{plan_of}
use Rattle.forward_slots.specs.Layout.{room_of}
use Rattle.forward_visits.specs.Inputs.{Inputs}

unfoldable pub wild_number : List Float → ℕ → Bool
wild_number s i = not (finite (get_or s i nan))

-- ---- the lowest link number that is listed with a cause

-- the lower of a link and the one found so far
unfoldable pub lower_of : ℕ → Option ℕ → Option ℕ
lower_of link (Some other) = cond (ltb other link) (Some other) (Some link)
lower_of link None = Some link

unfoldable pub lower_if : Bool → ℕ → Option ℕ → Option ℕ
lower_if bad link p = cond bad (lower_of link p) p

-- of the first k listed, those with a cause
unfoldable pub least_to : (ℕ → Bool) → List ℕ → ℕ → Option ℕ
least_to bad loaded zero = None
least_to bad loaded (suc k) = lower_if (bad k) (get_or loaded k 0) (least_to bad loaded k)

abbrev pub above_at : ℕ → List ℕ → ℕ → Bool
above_at n loaded k = ltb n (get_or loaded k 0)

-- load k has a number that is not finite, whatever the sum of its link would be
unfoldable pub wild_load : List Float → ℕ → Bool
wild_load loads k = not (wrench_finite (wrench_at loads (k * 6)))

-- ---- the verdicts

-- 13, 14 and 15
unfoldable pub motion_verdict : ℕ → List ℕ → List Float → List Float → Verdict
motion_verdict n kinds q qd = or_else (turns_verdict kinds n q) (values_verdict 14 15 kinds n qd)

-- 16, 17 and 18
unfoldable pub forces_verdict : ℕ → List Float → ℕ → Verdict
forces_verdict side forces out =
    or_else (plain_of 16 (not (eqb (length forces) side)))
    (or_else (plain_of 17 (not (eqb out side)))
    (named_of 18 (lowest (wild_number forces) (length forces))))

-- 19, 20 and 21
unfoldable pub loads_verdict : ℕ → List ℕ → List Float → Verdict
loads_verdict n loaded loads =
    or_else (plain_of 19 (not (eqb (length loads) (6 * length loaded))))
    (or_else (named_of 20 (least_to (above_at n loaded) loaded (length loaded)))
    (named_of 21 (least_to (wild_load loads) loaded (length loaded))))

-- 22: a fixed root's base velocity is +0.0
unfoldable pub root_verdict : Quaternion → Twist → Verdict
root_verdict rotation base = plain_of 22 (bad_rotation rotation || not (finite_of base))

unfoldable pub rest_verdict : ℕ → ℕ → Quaternion → Twist → List ℕ → Inputs → ℕ → Verdict
rest_verdict n side rotation base kinds i out =
    or_else (motion_verdict n kinds i.q i.qd)
    (or_else (forces_verdict side i.forces out)
    (or_else (loads_verdict n i.loaded i.loads)
    (root_verdict rotation base)))

-- 9, 10, 11 and 12 before them
unfoldable pub inputs_verdict : Bool → Quaternion → Twist → ℕ → List ℕ → List ℕ → Inputs → ℕ → ℕ → Verdict
inputs_verdict floating rotation base n parents kinds i ws out =
    or_else (plain_of 9 (wild_of n parents kinds))
    (or_else (plain_of 10 (ltb ws (room_of n)))
    (or_else (values_verdict 11 12 kinds n i.q)
    (rest_verdict n (plan_of floating n kinds).side rotation base kinds i out)))
