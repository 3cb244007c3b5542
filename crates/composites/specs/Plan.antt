-- The workspace's places (docs/LAYOUT.md), and the entries of the matrix in it (document 02, item 11 for the rotor). Definitions only.
use Rattle.std.specs.Prelude.{List, ℕ, ◌+◌, ◌*◌, ◌≤◌, set, get_or, Float}
use Rattle.std.specs.Float.{nan}
use Rattle.spatial.specs.declared.wrench.Wrench.{Wrench}
use Rattle.arm.specs.Joint.{with_rotor}
use Rattle.calls.specs.declared.plan.Plan.{Plan}

-- ---- the places

-- joint j has 32 numbers: its frame (7), then its composite (13)
abbrev pub frame_place : ℕ → ℕ
frame_place j = j * 32

abbrev pub composite_place : ℕ → ℕ
composite_place j = j * 32 + 7

-- behind the joints the root has 64: a floating root's composite (13)
abbrev pub root_place : ℕ → ℕ
root_place n = n * 32

-- behind them stands the matrix, column by column
abbrev pub matrix_place : ℕ → ℕ
matrix_place n = n * 32 + 64

abbrev pub place_of : Plan → ℕ → ℕ → ℕ
place_of p row column = matrix_place p.n + column * p.side + row

-- 32n + 64 + G² numbers
abbrev pub room_of : Plan → ℕ
room_of p = matrix_place p.n + p.side * p.side

-- ---- entries

-- an entry and its mirror
unfoldable pub put_pair : Plan → ℕ → ℕ → Float → List Float → List Float
put_pair p row column entry ws = set (set ws (place_of p row column) entry) (place_of p column row) entry

-- a wrench's six numbers in the first rows of a column, and their mirrors
unfoldable pub put_six : Plan → ℕ → Wrench → List Float → List Float
put_six p column w ws =
    put_pair p 5 column w.force.z
    (put_pair p 4 column w.force.y
    (put_pair p 3 column w.force.x
    (put_pair p 2 column w.torque.z
    (put_pair p 1 column w.torque.y
    (put_pair p 0 column w.torque.x ws)))))

-- a joint's diagonal entry with its rotor
unfoldable pub add_rotor : Plan → ℕ → Float → List Float → List Float
add_rotor p row rotor ws = let at = place_of p row row in set ws at (with_rotor rotor (get_or ws at nan))

-- ---- what the steps of the code promise each other

-- a workspace has room for it
pub record Room (p : Plan) (ws : ℕ) : Type 0 where
  pub few : p.n ≤ 32
  pub small : p.side ≤ 38
  pub room : room_of p ≤ ws
