-- The places that a visit sets, as the table of docs/LAYOUT.md has them. Definitions only.
use Rattle.std.specs.Prelude.{cond, List, [], ◌∷◌, ◌++◌, ℕ, zero, suc, ◌+◌, ◌-◌, eqb, ltb}
use Rattle.slots.specs.Parts.{Part, part}
use Rattle.arm.specs.Model.{parent_of, motion_of}
use Rattle.arm.specs.Topology.{actives_of}
use Rattle.arm.specs.declared.joint.Motion.{Motion}
use Rattle.arm.specs.declared.model.Model.{Model}
use Rattle.calls.specs.declared.plan.Plan.{Plan}
use Rattle.forward_slots.specs.Layout.{frame_place, velocity_place, bias_place, inertia_place, force_place, term_place, acceleration_place, load_place, root_inertia_place, root_force_place, root_acceleration_place, results_place}
use Rattle.forward_slots.specs.Eliminate.{fixed_by}

-- each joint's load
unfoldable pub load_parts : ℕ → List Part
load_parts zero = []
load_parts (suc j) = part (load_place j) 6 ∷ load_parts j

-- with the first visit: the root's inertia and bias force, and the loads
unfoldable pub begun_parts : ℕ → List Part
begun_parts n = part (root_inertia_place n) 36 ∷ part (root_force_place n) 6 ∷ load_parts n

-- first pass: frame, velocity, bias acceleration, inertia and bias force
unfoldable pub first_parts : ℕ → List Part
first_parts j = part (frame_place j) 7 ∷ part (velocity_place j) 6 ∷ part (bias_place j) 6 ∷ part (inertia_place j) 36 ∷ part (force_place j) 6 ∷ []

-- second pass: U, D and the joint bias of an active joint
unfoldable pub term_parts : Motion → ℕ → List Part
term_parts motion j = cond (fixed_by motion) [] (part (term_place j) 8 ∷ [])

-- then the parent's inertia and force, or the root's where it floats
unfoldable pub parent_parts : Plan → ℕ → List Part
parent_parts p parent =
    cond (eqb parent 0)
    (cond (eqb p.lead 0) [] (part (root_inertia_place p.n) 36 ∷ part (root_force_place p.n) 6 ∷ []))
    (part (inertia_place (parent - 1)) 36 ∷ part (force_place (parent - 1)) 6 ∷ [])

-- the root's visit: the results, where a floating base's six stand first, and the root's acceleration
unfoldable pub root_parts : Plan → List Part
root_parts p =
    let results = part (results_place p.n) p.side in
    let root = part (root_acceleration_place p.n) 6 in
    cond (eqb p.lead 0) (results ∷ root ∷ []) (results ∷ part (results_place p.n) 6 ∷ root ∷ [])

-- third pass: the link's acceleration, and an active joint's own among the results
unfoldable pub third_parts : Plan → Motion → ℕ → ℕ → List Part
third_parts p motion number j =
    let link = part (acceleration_place j) 6 in
    cond (fixed_by motion) (link ∷ []) (link ∷ part (results_place p.n + p.lead + number) 1 ∷ [])

-- visit k, after what the first brings
unfoldable pub pass_parts : Plan → Model → ℕ → List Part
pass_parts p m k =
    let n = p.n in
    let falling = n + n - 1 - k in
    let rising = k - (n + n) - 1 in
    cond (ltb k n) (first_parts k)
    (cond (ltb k (n + n)) (term_parts (motion_of m.kinds m.axes falling) falling ++ parent_parts p (parent_of m.parents falling))
    (cond (eqb k (n + n)) (root_parts p)
    (third_parts p (motion_of m.kinds m.axes rising) (actives_of m.kinds rising) rising)))

-- THE TABLE: the places that visit k sets; one that refuses sets fewer
unfoldable pub set_by : Plan → Model → ℕ → List Part
set_by p m k = cond (eqb k 0) (begun_parts p.n) [] ++ pass_parts p m k
