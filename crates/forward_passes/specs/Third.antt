-- The joints rising, third pass (`forward_dynamics.rs`). Definitions only.
use Rattle.std.specs.Prelude.{cond, List, ℕ, ◌+◌, ◌-◌, set, Float, Some}
use Rattle.numbers.specs.Double.{finite}
use Rattle.refusals.specs.Refusals.{Verdict, fine, refused}
use Rattle.spatial.specs.declared.twist.Twist.{Twist}
use Rattle.slots.specs.Slots.{frame_at, twist_at, put_twist}
use Rattle.arm.specs.Model.{parent_of, motion_of}
use Rattle.arm.specs.Topology.{actives_of}
use Rattle.arm.specs.declared.joint.Motion.{Motion}
use Rattle.articulated.specs.Third.{carried_acceleration, joint_acceleration, moved_by}
use Rattle.forward_slots.specs.Layout.{frame_place, bias_place, term_place, acceleration_place, root_acceleration_place, results_place}
use Rattle.forward_passes.specs.First.{parent_twist}
use Rattle.forward_slots.specs.Eliminate.{fixed_by}
use Rattle.forward_slots.specs.Term.{term_at}
use Rattle.calls.specs.declared.plan.Plan.{Plan}

-- joint j's link before the joint's own acceleration
unfoldable pub carried_at : ℕ → List ℕ → ℕ → List Float → Twist
carried_at n parents j ws =
    let parent = parent_of parents j in
    let carried = parent_twist ws parent (twist_at ws (root_acceleration_place n)) (acceleration_place (parent - 1)) in
    carried_acceleration (frame_at ws (frame_place j)) carried (twist_at ws (bias_place j))

-- 36: joint acceleration not finite, naming the active number; else it waits with the results
unfoldable pub kept_joint : Plan → Motion → ℕ → Twist → Float → ℕ → List Float → Verdict × List Float
kept_joint p motion number a x j ws =
    cond (finite x)
    (fine, set (put_twist ws (acceleration_place j) (moved_by motion a x)) (results_place p.n + p.lead + number) x)
    (refused 36 (Some number), ws)

unfoldable pub solved_joint : Plan → Motion → ℕ → Twist → ℕ → List Float → Verdict × List Float
solved_joint p motion number a j ws = kept_joint p motion number a (joint_acceleration a (term_at ws (term_place j))) j ws

unfoldable pub third_visit : Plan → List ℕ → List ℕ → List Float → ℕ → List Float → Verdict × List Float
third_visit p parents kinds axes j ws =
    let motion = motion_of kinds axes j in
    let a = carried_at p.n parents j ws in
    cond (fixed_by motion) (fine, put_twist ws (acceleration_place j) a) (solved_joint p motion (actives_of kinds j) a j ws)
