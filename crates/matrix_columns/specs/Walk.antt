-- A column of the mass matrix, by its walk: "going from a joint to its parent until the root is reached". Definitions only.
use Rattle.std.specs.Prelude.{cond, List, ◌≡◌, ℕ, zero, suc, ◌+◌, ◌-◌, eqb, Float}
use Rattle.numbers.specs.declared.quaternion.Quaternion.{Quaternion}
use Rattle.std.specs.Prelude.{Option, Some, None}
use Rattle.spatial.specs.Operators.{wrench_to_parent}
use Rattle.spatial.specs.Wrench.{rotated_of, vector_of}
use Rattle.spatial.specs.declared.wrench.Wrench.{Wrench}
use Rattle.slots.specs.Slots.{frame_at}
use Rattle.arm.specs.Model.{parent_of, motion_of, rotor_of}
use Rattle.arm.specs.Topology.{actives_of, active_joint}
use Rattle.arm.specs.declared.joint.Motion.{Motion}
use Rattle.arm.specs.declared.joint.Motion.TheVariants.{Turn, Slide, Fixed}
use Rattle.arm.specs.declared.model.Model.{Model}
use Rattle.composites.specs.Composite.{composite_at, force_of, entry_of}
use Rattle.composites.specs.Plan.{frame_place, composite_place, put_pair, put_six, add_rotor}
use Rattle.calls.specs.declared.plan.Plan.{Plan}

-- a joint's entry in a column and its mirror; nothing for a fixed joint
unfoldable pub put_entry : Plan → Motion → ℕ → ℕ → Float → List Float → List Float
put_entry p (Turn axis) row column entry ws = put_pair p row column entry ws
put_entry p (Slide axis) row column entry ws = put_pair p row column entry ws
put_entry p Fixed row column entry ws = ws

-- joint j's, from the wrench that has come to it
abbrev pub put_here : Plan → List ℕ → List Float → ℕ → ℕ → Wrench → List Float → List Float
put_here p kinds axes column j w ws =
    put_entry p (motion_of kinds axes j) (p.lead + actives_of kinds j) column (entry_of (motion_of kinds axes j) w) ws

-- one joint of the walk: its entry is written, and the wrench is carried to its parent
unfoldable pub walk_step : Plan → List ℕ → List Float → ℕ → ℕ → Wrench × List Float → Wrench × List Float
walk_step p kinds axes column j s =
    let ws = put_here p kinds axes column j s.0 s.1 in
    (wrench_to_parent (frame_at ws (frame_place j)) s.0, ws)

-- `act` at j, then at the joint of the link `up j`, until that is the root; at most k joints
unfoldable pub climb : {S : Type 0} → (ℕ → ℕ) → (ℕ → S → S) → ℕ → ℕ → S → S
climb up act zero j s = s
climb up act (suc k) j s = cond (eqb (up j) 0) (act j s) (climb up act k (up j - 1) (act j s))

-- from joint j to the root; j + 1 joints are enough, since a parent link is at most j
unfoldable pub walk_of : Plan → List ℕ → List ℕ → List Float → ℕ → ℕ → Wrench × List Float → Wrench × List Float
walk_of p parents kinds axes column j s = climb (parent_of parents) (walk_step p kinds axes column) (suc j) j s

-- ---- the column of an active joint

-- the base's rows of a column, from the wrench at the root
unfoldable pub base_rows : Plan → Quaternion → ℕ → Wrench × List Float → List Float
base_rows p r column s = cond (eqb p.lead 0) s.1 (put_six p column (rotated_of s.0 r) s.1)

-- the walk, the joint's rotor on its diagonal entry, and the base's rows
unfoldable pub column_visit : Plan → Quaternion → List ℕ → List ℕ → List Float → List Float → ℕ → List Float → List Float
column_visit p r parents kinds axes rotors j ws =
    let column = p.lead + actives_of kinds j in
    let walked = walk_of p parents kinds axes column j (force_of (motion_of kinds axes j) (composite_at ws (composite_place j)), ws) in
    base_rows p r column (walked.0, add_rotor p column (rotor_of rotors j) walked.1)

unfoldable pub column_found : Plan → Quaternion → List ℕ → List ℕ → List Float → List Float → Option ℕ → List Float → List Float
column_found p r parents kinds axes rotors (Some j) ws = column_visit p r parents kinds axes rotors j ws
column_found p r parents kinds axes rotors None ws = ws

-- of active number k
abbrev pub active_column : Plan → Quaternion → Model → ℕ → List Float → List Float
active_column p r m k ws = column_found p r m.parents m.kinds m.axes m.rotors (active_joint m.kinds p.n k) ws

-- ---- what the steps of the code promise each other

-- a plan and a wrench from their numbers
abbrev pub plan_with : ℕ → ℕ → ℕ → Plan
plan_with n lead side = record { n = n; lead = lead; side = side }

abbrev pub wrench_with : Float → Float → Float → Float → Float → Float → Wrench
wrench_with tx ty tz fx fy fz = record { torque = record { x = tx; y = ty; z = tz }; force = record { x = fx; y = fy; z = fz } }

-- where the walk from joint j has come to: at the root it has ended, and where that floats the wrench's numbers stand in `end`; at another link it goes on at
-- the link's joint, with the wrench whose numbers stand there
pub record Reached (p : Plan) (parents kinds : List ℕ) (axes : List Float) (column j : ℕ) (s : Wrench × List Float) (link : ℕ) (end ws : List Float) : Type 0 where
  pub written : link ≡ 0 → ws ≡ (walk_of p parents kinds axes column j s).1
  pub told : link ≡ 0 → (p.lead ≡ 0 → ⊥) → end ≡ vector_of (walk_of p parents kinds axes column j s).0
  pub goes : (link ≡ 0 → ⊥) → (w : Wrench) × (end ≡ vector_of w) × (walk_of p parents kinds axes column (link - 1) (w, ws) ≡ walk_of p parents kinds axes column j s)
