-- The plain mass matrix: every entry worked out by itself, with no workspace (document 02, item 10). Definitions only.
use Rattle.std.specs.Prelude.{Bool, cond, List, ℕ, ◌-◌, ◌*◌, ◌/◌, ◌%◌, ltb, length, Float, Ok, Err}
use Rattle.numbers.specs.Double.{all_finite}
use Rattle.numbers.specs.Table.{tab}
use Rattle.numbers.specs.declared.quaternion.Quaternion.{Quaternion}
use Rattle.refusals.specs.Refusals.{plain_of, or_else, Verdict, refusal}
use Rattle.std.specs.Prelude.{None}
use Rattle.std.specs.Option.{unwrap_or}
use Rattle.spatial.specs.Wrench.{rotated_of}
use Rattle.arm.specs.Model.{wild_of}
use Rattle.arm.specs.Topology.{active_joint}
use Rattle.arm.specs.declared.model.Model.{Model}
use Rattle.calls.specs.Plan.{plan_of}
use Rattle.calls.specs.declared.plan.Plan.{Plan}
use Rattle.calls.specs.declared.position.Outcome.{Outcome}
use Rattle.calls.specs.declared.position.Outcome.TheVariants.{Accepted, Refused}
use Rattle.plain_entries.specs.Arm.{Arm, arm_of}
use Rattle.plain_entries.specs.Gather.{composite_of}
use Rattle.plain_entries.specs.Entries.{entry_between, root_answer, number_of}
use Rattle.matrix_visits.specs.Kernel.{base_load}
use Rattle.mass_matrix.specs.Checks.{tame_verdict}
use Rattle.mass_matrix.specs.MassMatrix.{floats, rotation_of}
use Rattle.mass_matrix.specs.declared.mass_matrix.Mode.{Mode}

-- ---- an entry by its row and column

-- the joint of active number k; each number below a is some joint's (`numbered` of `arm`)
unfoldable pub joint_with : List ℕ → ℕ → ℕ → ℕ
joint_with kinds n k = unwrap_or (active_joint kinds n k) 0

-- of two active numbers the higher one is the column's
unfoldable pub joint_entry : Arm → List ℕ → ℕ → ℕ → Float
joint_entry a kinds row column =
    let I = joint_with kinds a.n row in
    let J = joint_with kinds a.n column in
    cond (ltb column row) (entry_between a I J) (entry_between a J I)

-- between the base's direction k and active number c: what answers the joint's motion, at the root
unfoldable pub base_entry : Arm → Quaternion → List ℕ → ℕ → ℕ → Float
base_entry a r kinds k c = number_of (rotated_of (root_answer a (joint_with kinds a.n c)) r) k

-- between two directions of the base: what moves the whole arm
unfoldable pub corner_entry : Arm → Quaternion → ℕ → ℕ → Float
corner_entry a r row column = number_of (base_load r (composite_of a 0) column) row

-- any entry: the first `lead` rows and columns, six where the root floats, are the base's
unfoldable pub entry_at : Arm → ℕ → Quaternion → List ℕ → ℕ → ℕ → Float
entry_at a lead r kinds row column =
    cond (ltb row lead)
    (cond (ltb column lead) (corner_entry a r row column) (base_entry a r kinds row (column - lead)))
    (cond (ltb column lead) (base_entry a r kinds column (row - lead)) (joint_entry a kinds (row - lead) (column - lead)))

-- ---- the matrix

-- column by column: its number t
abbrev pub plain_number : Arm → Plan → Quaternion → List ℕ → ℕ → Float
plain_number a p r kinds t = entry_at a p.lead r kinds (t % p.side) (t / p.side)

unfoldable pub plain_entries : Arm → Plan → Quaternion → List ℕ → List Float
plain_entries a p r kinds = tab (plain_number a p r kinds) (p.side * p.side)

-- what is answered, and the output then: 37 leaves it
unfoldable pub plain_matrix : Mode → Model → List Float → List Float → Outcome × List Float
plain_matrix mode m q out =
    let entries = plain_entries (arm_of m q) (plan_of (floats mode) m.n m.kinds) (rotation_of mode) m.kinds in
    cond (all_finite entries) (Accepted, entries) (Refused (refusal 37 None), out)

-- ---- the call

-- the checks of the matrix but for 10: "the plain one needs no workspace"
unfoldable pub plain_verdict : Bool → Quaternion → ℕ → List ℕ → List ℕ → List Float → ℕ → Verdict
plain_verdict floating r n parents kinds q out =
    or_else (plain_of 9 (wild_of n parents kinds)) (tame_verdict n (plan_of floating n kinds).side floating r kinds q out)

-- a refusal leaves the output
abbrev pub unless : Verdict → List Float → Outcome × List Float → Outcome × List Float
unless (Ok u) out made = made
unless (Err r) out made = (Refused r, out)

-- THE CALL: what is answered, and the output's numbers after it
unfoldable pub plain_call : Mode → Model → List Float → List Float → Outcome × List Float
plain_call mode m q out = unless (plain_verdict (floats mode) (rotation_of mode) m.n m.parents m.kinds q (length out)) out (plain_matrix mode m q out)
