-- The visits of the mass matrix, on any workspace numbers (document 01, "Visits"; `mass_matrix.rs`). Definitions only.
use Rattle.std.specs.Prelude.{cond, List, ℕ, zero, suc, ◌+◌, ◌-◌, ◌*◌, ◌%◌, eqb, ltb, take, drop, Float}
use Rattle.numbers.specs.Double.{0·0, 1·0, all_finite}
use Rattle.numbers.specs.Quaternion.{inverse_of, rotate_of}
use Rattle.numbers.specs.declared.vec3.Vec3.{Vec3}
use Rattle.numbers.specs.declared.quaternion.Quaternion.{Quaternion}
use Rattle.std.specs.Prelude.{None}
use Rattle.refusals.specs.Refusals.{refusal}
use Rattle.spatial.specs.Wrench.{rotated_of}
use Rattle.spatial.specs.declared.wrench.Wrench.{Wrench}
use Rattle.slots.specs.Slots.{frame_at, put_frame, put_wrench, zero_to}
use Rattle.arm.specs.Joint.{frame_of}
use Rattle.arm.specs.Model.{parent_of, joint_of, link_of}
use Rattle.arm.specs.Topology.{value_of}
use Rattle.arm.specs.declared.joint.Motion.TheVariants.{Turn, Slide}
use Rattle.arm.specs.declared.model.Link.{Link}
use Rattle.arm.specs.declared.model.Model.{Model}
use Rattle.calls.specs.declared.position.Outcome.{Outcome}
use Rattle.calls.specs.declared.position.Outcome.TheVariants.{Open, Accepted, Refused}
use Rattle.composites.specs.Composite.{composite_at, put_composite, to_parent_of, joined_of, force_of}
use Rattle.composites.specs.Plan.{frame_place, composite_place, root_place, matrix_place, place_of}
use Rattle.matrix_columns.specs.Walk.{active_column}
use Rattle.calls.specs.declared.plan.Plan.{Plan}

-- what the Rust sets before its loops comes with the first visit: the matrix is +0.0, and a floating root has its own link's numbers
unfoldable pub begun_of : Plan → List Float → ℕ → List Float → List Float
begun_of p links at ws =
    let zeroed = zero_to ws (matrix_place p.n) (p.side * p.side) in
    cond (eqb at 0) (cond (eqb p.lead 0) zeroed (put_composite zeroed (root_place p.n) (link_of links 0))) ws

-- ---- frames rising: joint j's frame, and its own link as the start of its composite

unfoldable pub frame_visit : List ℕ → List ℕ → List Float → List Float → List Float → List Float → ℕ → List Float → List Float
frame_visit parents kinds origins axes links q j ws =
    let joint = joint_of parents kinds origins axes j in
    let framed = put_frame ws (frame_place j) (frame_of joint.origin joint.motion (value_of kinds q j)) in
    put_composite framed (composite_place j) (link_of links (j + 1))

-- ---- composites falling: into the parent's, or the root's where it floats

unfoldable pub add_into : ℕ → ℕ → List Float → List Float
add_into at j ws = put_composite ws at (joined_of (composite_at ws at) (to_parent_of (composite_at ws (composite_place j)) (frame_at ws (frame_place j))))

unfoldable pub composite_visit : Plan → ℕ → ℕ → List Float → List Float
composite_visit p parent j ws =
    cond (eqb parent 0) (cond (eqb p.lead 0) ws (add_into (root_place p.n) j ws))
    (add_into (composite_place (parent - 1)) j ws)

-- ---- the root: a floating base's six columns, then every entry is tested

-- axis k of the world
unfoldable pub world_axis : ℕ → Vec3
world_axis k =
    cond (eqb k 0) (record { x = 1·0; y = 0·0; z = 0·0 })
    (cond (eqb k 1) (record { x = 0·0; y = 1·0; z = 0·0 })
    (record { x = 0·0; y = 0·0; z = 1·0 }))

-- what moves the whole arm along base direction k, in the world
unfoldable pub base_load : Quaternion → Link → ℕ → Wrench
base_load r root k =
    let axis = rotate_of (inverse_of r) (world_axis (k % 3)) in
    cond (ltb k 3) (rotated_of (force_of (Turn axis) root) r) (rotated_of (force_of (Slide axis) root) r)

-- the first k columns
unfoldable pub base_loads_to : Plan → Quaternion → Link → ℕ → List Float → List Float
base_loads_to p r root zero ws = ws
base_loads_to p r root (suc k) ws = put_wrench (base_loads_to p r root k ws) (place_of p 0 k) (base_load r root k)

unfoldable pub root_columns : Plan → Quaternion → List Float → List Float
root_columns p r ws = cond (eqb p.lead 0) ws (base_loads_to p r (composite_at ws (root_place p.n)) 6 ws)

-- 37: an entry is not finite
unfoldable pub tested : Plan → List Float → Outcome
tested p ws = cond (all_finite (take (p.side * p.side) (drop (matrix_place p.n) ws))) Accepted (Refused (refusal 37 None))

unfoldable pub root_visit : Plan → Quaternion → List Float → Outcome × List Float
root_visit p r ws = let full = root_columns p r ws in (tested p full, full)

-- ---- visit `at`

unfoldable pub joint_visit : Plan → Quaternion → Model → List Float → ℕ → List Float → List Float
joint_visit p r m q at ws =
    let n = p.n in
    cond (ltb at n) (frame_visit m.parents m.kinds m.origins m.axes m.links q at ws)
    (cond (ltb at (n + n)) (let j = n + n - 1 - at in composite_visit p (parent_of m.parents j) j ws)
    (active_column p r m (at - (n + n)) ws))

unfoldable pub visit_of : Plan → Quaternion → Model → List Float → ℕ → List Float → Outcome × List Float
visit_of p r m q at ws =
    let begun = begun_of p m.links at ws in
    cond (ltb at (p.n + p.n + (p.side - p.lead))) (Open, joint_visit p r m q at begun) (root_visit p r begun)

-- ---- what the steps of the code promise each other

-- the composite that a joint's is added to
unfoldable pub into_place : ℕ → ℕ → ℕ
into_place n parent = cond (eqb parent 0) (root_place n) (composite_place (parent - 1))
