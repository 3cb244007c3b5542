-- Every visit keeps the workspace's length. Assumes nothing.
use mathlib.Core.List.{List}
use mathlib.Core.Path.{◌≡◌, refl, ◌∙◌}
use Prim.Native.Nat.{ℕ, zero, suc, ◌+◌, ◌-◌}
use lib.Dec.{eqb, ltb}
use lib.ListN.{length}
use lib.Ieee.{Float}
use Rattle.numbers.specs.declared.quaternion.Quaternion.{Quaternion}
use Rattle.std.specs.Prelude.{Option, Some, None}
use Rattle.spatial.specs.declared.wrench.Wrench.{Wrench}
use Rattle.slots.proofs.Lengths.{length-put_wrench, length-put_frame, length-zero_to}
use Rattle.arm.specs.Model.{parent_of}
use Rattle.arm.specs.Topology.{active_joint}
use Rattle.arm.specs.declared.joint.Motion.{Motion}
use Rattle.arm.specs.declared.joint.Motion.TheVariants.{Turn, Slide, Fixed}
use Rattle.arm.specs.declared.model.Link.{Link}
use Rattle.arm.specs.declared.model.Model.{Model}
use Rattle.calls.specs.declared.position.Outcome.{Outcome}
use Rattle.calls.proofs.Kept.{either_way}
use Rattle.matrix_visits.specs.Kernel.{begun_of, frame_visit, add_into, composite_visit, base_loads_to, root_columns, root_visit, joint_visit, visit_of}
use Rattle.composites.specs.Plan.{composite_place, root_place, put_six}
use Rattle.composites.proofs.Blocks.{length-put_composite}
use Rattle.composites.proofs.Entries.{length-put_pair, length-add_rotor}
use Rattle.matrix_columns.specs.Walk.{put_entry, walk_step, climb, walk_of, base_rows, column_visit, column_found}
use Rattle.calls.specs.declared.plan.Plan.{Plan}

length-put_six : (p : Plan) (column : ℕ) (w : Wrench) (ws : List Float) → length (put_six p column w ws) ≡ length ws
unfolding put_six
length-put_six p column w ws = simp length-put_pair

length-put_entry : (p : Plan) (motion : Motion) (row column : ℕ) (entry : Float) (ws : List Float) → length (put_entry p motion row column entry ws) ≡ length ws
unfolding put_entry
length-put_entry p (Turn axis) row column entry ws = length-put_pair p row column entry ws
length-put_entry p (Slide axis) row column entry ws = length-put_pair p row column entry ws
length-put_entry p Fixed row column entry ws = refl

length-begun : (p : Plan) (links : List Float) (at : ℕ) (ws : List Float) → length (begun_of p links at ws) ≡ length ws
unfolding begun_of
length-begun p links at ws =
    either_way length (eqb at 0) (either_way length (eqb p.lead 0) (simp length-zero_to) (simp (length-put_composite, length-zero_to))) refl

length-add_into : (at j : ℕ) (ws : List Float) → length (add_into at j ws) ≡ length ws
unfolding add_into
length-add_into at j ws = simp length-put_composite

length-composite : (p : Plan) (parent j : ℕ) (ws : List Float) → length (composite_visit p parent j ws) ≡ length ws
unfolding composite_visit
length-composite p parent j ws =
    either_way length (eqb parent 0) (either_way length (eqb p.lead 0) refl (length-add_into (root_place p.n) j ws)) (length-add_into (composite_place (parent - 1)) j ws)

-- a walk keeps what each of its joints keeps
climb-keeps : {S T : Type 0} (f : S → T) (up : ℕ → ℕ) (act : ℕ → S → S) → ((j : ℕ) (s : S) → f (act j s) ≡ f s) → (k j : ℕ) (s : S) → f (climb up act k j s) ≡ f s
unfolding climb
climb-keeps f up act g zero j s = refl
climb-keeps f up act g (suc k) j s = either_way f (eqb (up j) 0) (g j s) (climb-keeps f up act g k (up j - 1) (act j s) ∙ g j s)

abbrev size : Wrench × List Float → ℕ
size s = length s.1

length-walk : (p : Plan) (parents kinds : List ℕ) (axes : List Float) (column j : ℕ) (s : Wrench × List Float) → size (walk_of p parents kinds axes column j s) ≡ size s
unfolding walk_of walk_step
length-walk p parents kinds axes column j s =
    climb-keeps size (parent_of parents) (walk_step p kinds axes column) (λ i t. length-put_entry p _ _ column _ t.1) (suc j) j s

length_found : (p : Plan) (r : Quaternion) (parents kinds : List ℕ) (axes rotors : List Float) (i : Option ℕ) (ws : List Float) → length (column_found p r parents kinds axes rotors i ws) ≡ length ws
unfolding column_found column_visit base_rows
length_found p r parents kinds axes rotors (Some j) ws =
    either_way length (eqb p.lead 0) (length-add_rotor p _ _ _ ∙ length-walk p parents kinds axes _ j _) (length-put_six p _ _ _ ∙ length-add_rotor p _ _ _ ∙ length-walk p parents kinds axes _ j _)
length_found p r parents kinds axes rotors None ws = refl

length-joint : (p : Plan) (r : Quaternion) (m : Model) (q : List Float) (at : ℕ) (ws : List Float) → length (joint_visit p r m q at ws) ≡ length ws
unfolding joint_visit frame_visit
length-joint p r m q at ws =
    let n = p.n in
    either_way length (ltb at n) (simp (length-put_composite, length-put_frame))
    (either_way length (ltb at (n + n)) (length-composite p _ (n + n - 1 - at) ws)
    (length_found p r m.parents m.kinds m.axes m.rotors (active_joint m.kinds n (at - (n + n))) ws))

length-loads : (p : Plan) (r : Quaternion) (root : Link) (k : ℕ) (ws : List Float) → length (base_loads_to p r root k ws) ≡ length ws
unfolding base_loads_to
length-loads p r root zero ws = refl
length-loads p r root (suc k) ws = length-put_wrench _ _ _ ∙ length-loads p r root k ws

length-root : (p : Plan) (r : Quaternion) (ws : List Float) → length (root_columns p r ws) ≡ length ws
unfolding root_columns
length-root p r ws = either_way length (eqb p.lead 0) refl (length-loads p r _ 6 ws)

pub length-visit : (p : Plan) (r : Quaternion) (m : Model) (q : List Float) (at : ℕ) (ws : List Float) → length (visit_of p r m q at ws).1 ≡ length ws
unfolding visit_of root_visit
length-visit p r m q at ws =
    either_way (λ (e : Outcome × List Float). length e.1) (ltb at (p.n + p.n + (p.side - p.lead)))
    (length-joint p r m q at _ ∙ length-begun p m.links at ws)
    (length-root p r _ ∙ length-begun p m.links at ws)
