-- The joints falling, second pass (`forward_dynamics.rs`). Definitions only.
use Rattle.std.specs.Prelude.{cond, List, ℕ, ◌-◌, eqb, Float}
use Rattle.refusals.specs.Refusals.{Verdict, fine}
use Rattle.arm.specs.Model.{parent_of, motion_of, rotor_of}
use Rattle.arm.specs.Topology.{actives_of}
use Rattle.arm.specs.declared.joint.Motion.{Motion}
use Rattle.calls.specs.declared.plan.Plan.{Plan}
use Rattle.forward_slots.specs.Layout.{inertia_place, root_inertia_place}
use Rattle.forward_slots.specs.Whole.{add_whole}
use Rattle.forward_slots.specs.Reduced.{add_reduced}
use Rattle.forward_slots.specs.Eliminate.{fixed_by, unless_refused, eliminated}

unfoldable pub add_into : Motion → ℕ → ℕ → List Float → List Float
add_into motion at j ws = cond (fixed_by motion) (add_whole at j ws) (add_reduced at j ws)

-- the parent's, or the root's where it floats; a fixed root takes nothing up
unfoldable pub propagated : Plan → Motion → ℕ → ℕ → List Float → List Float
propagated p motion parent j ws =
    cond (eqb parent 0) (cond (eqb p.lead 0) ws (add_into motion (root_inertia_place p.n) j ws)) (add_into motion (inertia_place (parent - 1)) j ws)

unfoldable pub second_visit : Plan → List ℕ → List ℕ → List Float → List Float → List Float → ℕ → List Float → Verdict × List Float
second_visit p parents kinds axes rotors forces j ws =
    let motion = motion_of kinds axes j in
    let e = eliminated p motion (rotor_of rotors j) (actives_of kinds j) forces j ws in
    unless_refused e.0 e.1 (fine, propagated p motion (parent_of parents j) j e.1)
