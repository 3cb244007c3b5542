-- The places that a visit sets, as the table of docs/LAYOUT.md has them. Definitions only.
use Rattle.std.specs.Prelude.{cond, List, [], ◌∷◌, ◌++◌, ℕ, zero, suc, ◌+◌, ◌-◌, ◌*◌, eqb, ltb}
use Rattle.std.specs.Prelude.{Option, Some, None}
use Rattle.slots.specs.Parts.{Part, part}
use Rattle.arm.specs.Joint.{is_fixed}
use Rattle.arm.specs.Model.{parent_of, kind_of}
use Rattle.arm.specs.Topology.{actives_of, active_joint}
use Rattle.composites.specs.Plan.{frame_place, composite_place, root_place, matrix_place, place_of}
use Rattle.matrix_columns.specs.Walk.{climb}
use Rattle.calls.specs.declared.plan.Plan.{Plan}

-- a floating root's composite
unfoldable pub root_part : Plan → List Part
root_part p = cond (eqb p.lead 0) [] (part (root_place p.n) 13 ∷ [])

-- with the first visit: the matrix, and a floating root's composite
unfoldable pub begun_parts : Plan → List Part
begun_parts p = part (matrix_place p.n) (p.side * p.side) ∷ root_part p

-- a frame visit: joint j's frame and its composite
unfoldable pub frame_parts : ℕ → List Part
frame_parts j = part (frame_place j) 7 ∷ part (composite_place j) 13 ∷ []

-- a composite visit: the parent's composite, or the root's where it floats
unfoldable pub composite_parts : Plan → ℕ → List Part
composite_parts p parent = cond (eqb parent 0) (root_part p) (part (composite_place (parent - 1)) 13 ∷ [])

-- ---- a column visit

-- an entry and its mirror
unfoldable pub pair_parts : Plan → ℕ → ℕ → List Part
pair_parts p row column = part (place_of p row column) 1 ∷ part (place_of p column row) 1 ∷ []

-- joint j's; nothing for a fixed joint
unfoldable pub entry_parts : Plan → List ℕ → ℕ → ℕ → List Part
entry_parts p kinds column j = cond (is_fixed (kind_of kinds j)) [] (pair_parts p (p.lead + actives_of kinds j) column)

-- those of the joints from j to the root
unfoldable pub path_parts : Plan → List ℕ → List ℕ → ℕ → ℕ → List Part
path_parts p parents kinds column j = climb (parent_of parents) (λ i parts. parts ++ entry_parts p kinds column i) (suc j) j []

-- the first k rows of a column, and their mirrors
unfoldable pub rows_to : Plan → ℕ → ℕ → List Part
rows_to p column zero = []
rows_to p column (suc k) = rows_to p column k ++ pair_parts p k column

-- the joint's column, its diagonal entry once more, with its rotor, and the base's six rows where the root floats
unfoldable pub column_parts : Plan → List ℕ → List ℕ → Option ℕ → List Part
column_parts p parents kinds (Some j) =
    let column = p.lead + actives_of kinds j in
    path_parts p parents kinds column j ++ (part (place_of p column column) 1 ∷ cond (eqb p.lead 0) [] (rows_to p column 6))
column_parts p parents kinds None = []

-- ---- the root's visit

-- six rows of the first k columns
unfoldable pub columns_to : Plan → ℕ → List Part
columns_to p zero = []
columns_to p (suc k) = part (place_of p 0 k) 6 ∷ columns_to p k

-- of the base's six columns where the root floats
unfoldable pub base_parts : Plan → List Part
base_parts p = cond (eqb p.lead 0) [] (columns_to p 6)

-- ---- visit k, after what the first brings

unfoldable pub joint_parts : Plan → List ℕ → List ℕ → ℕ → List Part
joint_parts p parents kinds k =
    let n = p.n in
    cond (ltb k n) (frame_parts k)
    (cond (ltb k (n + n)) (composite_parts p (parent_of parents (n + n - 1 - k)))
    (column_parts p parents kinds (active_joint kinds n (k - (n + n)))))

-- THE TABLE: the places that visit k sets
unfoldable pub set_by : Plan → List ℕ → List ℕ → ℕ → List Part
set_by p parents kinds k =
    cond (eqb k 0) (begun_parts p) []
    ++ cond (ltb k (p.n + p.n + (p.side - p.lead))) (joint_parts p parents kinds k) (base_parts p)
