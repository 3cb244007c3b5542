-- A visit sets no place but those of the table: every other number keeps its bits. Assumes nothing.
use mathlib.Core.Bool.{cond}
use mathlib.Core.List.{List, [], ◌∷◌, ◌++◌}
use mathlib.Core.Path.{◌≡◌}
use Prim.Native.Nat.{ℕ, zero, suc, ◌+◌, ◌-◌, ◌*◌, ◌<◌}
use native.Mathlib.Omega.{arith}
use borrow.Author.Tests.{ne_eqb}
use lib.Dec.{eqb, ltb}
use lib.ListN.{set, get_or}
use lib.Ieee.{Float, nan}
use Rattle.numbers.specs.declared.quaternion.Quaternion.{Quaternion}
use Rattle.numbers.specs.declared.vec3.Vec3.{Vec3}
use Rattle.std.specs.Prelude.{Option, Some, None}
use Rattle.spatial.specs.Wrench.{rotated_of}
use Rattle.spatial.specs.declared.wrench.Wrench.{Wrench}
use Rattle.slots.specs.Parts.{Part, part, Sets}
use Rattle.slots.specs.Slots.{vec3_at, zero_to}
use Rattle.slots.proofs.Sets.{none, here, there, then, row, way}
use Rattle.slots.proofs.Blocks.{Outside, set-outside, put_frame-outside, put_wrench-outside, zero_to-outside}
use Rattle.arm.specs.Joint.{is_fixed, motion_by, with_rotor}
use Rattle.arm.specs.Model.{parent_of, kind_of, motion_of, rotor_of, link_of}
use Rattle.arm.specs.Topology.{actives_of, active_joint}
use Rattle.arm.specs.declared.joint.Motion.TheVariants.{Fixed}
use Rattle.arm.specs.declared.model.Link.{Link}
use Rattle.arm.specs.declared.model.Model.{Model}
use Rattle.calls.specs.declared.plan.Plan.{Plan}
use Rattle.calls.specs.declared.position.Outcome.{Outcome}
use Rattle.composites.specs.Composite.{composite_at, force_of, entry_of}
use Rattle.composites.specs.Plan.{composite_place, root_place, matrix_place, place_of, put_pair, put_six, add_rotor}
use Rattle.composites.proofs.Blocks.{put_composite-outside}
use Rattle.matrix_columns.specs.Walk.{put_entry, walk_step, climb, walk_of, base_rows, column_visit, column_found}
use Rattle.matrix_visits.specs.Kernel.{begun_of, frame_visit, add_into, composite_visit, base_loads_to, root_columns, root_visit, joint_visit, visit_of}
use Rattle.matrix_visits.specs.Places.{root_part, begun_parts, frame_parts, composite_parts, pair_parts, entry_parts, path_parts, rows_to, column_parts, columns_to, base_parts, joint_parts, set_by}

into : (at j : ℕ) (ws : List Float) → Outside at 13 ws (add_into at j ws)
unfolding add_into
into at j ws = put_composite-outside ws at _

-- what is no kind moves nothing
no-motion : (kind : ℕ) (axis : Vec3) → 2 < kind → motion_by kind axis ≡ Fixed
unfolding motion_by
no-motion kind axis h = simp (ne_eqb kind 0 (λ e. omega arith), ne_eqb kind 1 (λ e. omega arith))

abbrev same : List Float → List Float
same ws = ws

-- ---- the first visit, frames and composites

root-sets : (p : Plan) {s t : List Float} → Outside (root_place p.n) 13 s t → Sets (root_part p) s (cond (eqb p.lead 0) s t)
unfolding root_part
root-sets p {s = s} o = way same (eqb p.lead 0) (none s) (here o)

begun-sets : (p : Plan) (links : List Float) (k : ℕ) (ws : List Float) → Sets (cond (eqb k 0) (begun_parts p) []) ws (begun_of p links k ws)
unfolding begun_parts begun_of
begun-sets p links k ws =
    let zeroed = zero_to ws (matrix_place p.n) (p.side * p.side) in
    way same (eqb k 0)
    (then (here (zero_to-outside ws (matrix_place p.n) (p.side * p.side))) (there (root-sets p (put_composite-outside zeroed (root_place p.n) (link_of links 0)))))
    (none ws)

frame-sets : (parents kinds : List ℕ) (origins axes links q : List Float) (j : ℕ) (ws : List Float) → Sets (frame_parts j) ws (frame_visit parents kinds origins axes links q j ws)
unfolding frame_parts frame_visit
frame-sets parents kinds origins axes links q j ws = then (here (put_frame-outside _ _ _)) (there (here (put_composite-outside _ _ _)))

composite-sets : (p : Plan) (parent j : ℕ) (ws : List Float) → Sets (composite_parts p parent) ws (composite_visit p parent j ws)
unfolding composite_parts composite_visit
composite-sets p parent j ws = way same (eqb parent 0) (root-sets p (into (root_place p.n) j ws)) (here (into (composite_place (parent - 1)) j ws))

-- ---- columns

pair-sets : (p : Plan) (row column : ℕ) (entry : Float) (ws : List Float) → Sets (pair_parts p row column) ws (put_pair p row column entry ws)
unfolding pair_parts put_pair
pair-sets p row column entry ws = then (here (set-outside _ _ _)) (there (here (set-outside _ _ _)))

entry-sets : (p : Plan) (kind : ℕ) (axis : Vec3) (row column : ℕ) (entry : Float) (ws : List Float) → Sets (cond (is_fixed kind) [] (pair_parts p row column)) ws (put_entry p (motion_by kind axis) row column entry ws)
unfolding put_entry motion_by
entry-sets p zero axis row column entry ws = pair-sets p row column entry ws
entry-sets p (suc zero) axis row column entry ws = pair-sets p row column entry ws
entry-sets p (suc (suc zero)) axis row column entry ws = none ws
entry-sets p (suc (suc (suc kind))) axis row column entry ws = rw (no-motion (suc (suc (suc kind))) axis (omega arith)) (none ws)

step-sets : (p : Plan) (kinds : List ℕ) (axes : List Float) (column j : ℕ) (s : Wrench × List Float) → Sets (entry_parts p kinds column j) s.1 (walk_step p kinds axes column j s).1
unfolding entry_parts walk_step motion_of
step-sets p kinds axes column j s =
    entry-sets p (kind_of kinds j) (vec3_at axes (j * 3)) (p.lead + actives_of kinds j) column (entry_of (motion_of kinds axes j) s.0) s.1

-- a walk sets what its joints set, beside what was set before it
climb-sets : {S : Type 0} (f : S → List Float) (up : ℕ → ℕ) (act : ℕ → S → S) (parts : ℕ → List Part) → ((j : ℕ) (x : S) → Sets (parts j) (f x) (f (act j x)))
    → (k j : ℕ) (x : S) (some : List Part) (s : List Float) → Sets some s (f x) → Sets (climb up (λ i more. more ++ parts i) k j some) s (f (climb up act k j x))
unfolding climb
climb-sets f up act parts g zero j x some s d = d
climb-sets f up act parts g (suc k) j x some s d =
    let e = row some (parts j) d (g j x) in
    way f (eqb (up j) 0) e (climb-sets f up act parts g k (up j - 1) (act j x) (some ++ parts j) s e)

six-sets : (p : Plan) (column : ℕ) (w : Wrench) (ws : List Float) → Sets (rows_to p column 6) ws (put_six p column w ws)
unfolding rows_to put_six
six-sets p column w ws =
    row (rows_to p column 5) (pair_parts p 5 column)
    (row (rows_to p column 4) (pair_parts p 4 column)
    (row (rows_to p column 3) (pair_parts p 3 column)
    (row (rows_to p column 2) (pair_parts p 2 column)
    (row (rows_to p column 1) (pair_parts p 1 column)
    (row [] (pair_parts p 0 column) (none ws) (pair-sets p 0 column w.torque.x ws))
    (pair-sets p 1 column w.torque.y _))
    (pair-sets p 2 column w.torque.z _))
    (pair-sets p 3 column w.force.x _))
    (pair-sets p 4 column w.force.y _))
    (pair-sets p 5 column w.force.z _)

column-sets : (p : Plan) (r : Quaternion) (parents kinds : List ℕ) (axes rotors : List Float) (found : Option ℕ) (ws : List Float) →
    Sets (column_parts p parents kinds found) ws (column_found p r parents kinds axes rotors found ws)
unfolding column_parts path_parts column_found column_visit walk_of base_rows add_rotor
column-sets p r parents kinds axes rotors (Some j) ws =
    let column = p.lead + actives_of kinds j in
    let from : Wrench × List Float = (force_of (motion_of kinds axes j) (composite_at ws (composite_place j)), ws) in
    let end = climb (parent_of parents) (walk_step p kinds axes column) (suc j) j from in
    let diagonal = place_of p column column in
    let full = set end.1 diagonal (with_rotor (rotor_of rotors j) (get_or end.1 diagonal nan)) in
    row (path_parts p parents kinds column j) (part diagonal 1 ∷ cond (eqb p.lead 0) [] (rows_to p column 6))
    (climb-sets (λ (s : Wrench × List Float). s.1) (parent_of parents) (walk_step p kinds axes column) (entry_parts p kinds column) (step-sets p kinds axes column) (suc j) j from [] ws (none ws))
    (then (here (set-outside _ _ _)) (there (way same (eqb p.lead 0) (none full) (six-sets p column (rotated_of end.0 r) full))))
column-sets p r parents kinds axes rotors None ws = none ws

-- ---- a visit

joint-sets : (p : Plan) (r : Quaternion) (m : Model) (q : List Float) (k : ℕ) (ws : List Float) → Sets (joint_parts p m.parents m.kinds k) ws (joint_visit p r m q k ws)
unfolding joint_parts joint_visit
joint-sets p r m q k ws =
    let n = p.n in
    let j = n + n - 1 - k in
    way same (ltb k n) (frame-sets m.parents m.kinds m.origins m.axes m.links q k ws)
    (way same (ltb k (n + n)) (composite-sets p (parent_of m.parents j) j ws)
    (column-sets p r m.parents m.kinds m.axes m.rotors (active_joint m.kinds n (k - (n + n))) ws))

loads-sets : (p : Plan) (r : Quaternion) (root : Link) (k : ℕ) (ws : List Float) → Sets (columns_to p k) ws (base_loads_to p r root k ws)
unfolding columns_to base_loads_to
loads-sets p r root zero ws = none ws
loads-sets p r root (suc k) ws = then (there (loads-sets p r root k ws)) (here (put_wrench-outside _ _ _))

base-sets : (p : Plan) (r : Quaternion) (ws : List Float) → Sets (base_parts p) ws (root_columns p r ws)
unfolding base_parts root_columns
base-sets p r ws = way same (eqb p.lead 0) (none ws) (loads-sets p r (composite_at ws (root_place p.n)) 6 ws)

-- A VISIT SETS NO OTHER PLACE, whatever the model, the input and the workspace: past its end a number is NaN before and after
pub keeps : (p : Plan) (r : Quaternion) (m : Model) (q : List Float) (k : ℕ) (ws : List Float) → Sets (set_by p m.parents m.kinds k) ws (visit_of p r m q k ws).1
unfolding set_by visit_of root_visit
keeps p r m q k ws =
    let begun = begun_of p m.links k ws in
    let last = ltb k (p.n + p.n + (p.side - p.lead)) in
    row (cond (eqb k 0) (begun_parts p) []) (cond last (joint_parts p m.parents m.kinds k) (base_parts p)) (begun-sets p m.links k ws)
    (way (λ (e : Outcome × List Float). e.1) last (joint-sets p r m q k begun) (base-sets p r begun))
