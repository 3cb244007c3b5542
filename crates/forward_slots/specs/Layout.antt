-- The places in the workspace (docs/LAYOUT.md). Definitions only.
use Rattle.std.specs.Prelude.{ℕ, ◌+◌, ◌*◌, ◌≤◌}
use Rattle.calls.specs.declared.plan.Plan.{Plan}

-- ---- joint j's 95 numbers

abbrev pub frame_place : ℕ → ℕ
frame_place j = j * 95

abbrev pub velocity_place : ℕ → ℕ
velocity_place j = j * 95 + 7

-- the bias acceleration's
abbrev pub bias_place : ℕ → ℕ
bias_place j = j * 95 + 13

-- the articulated inertia's, and its bias force's
abbrev pub inertia_place : ℕ → ℕ
inertia_place j = j * 95 + 19

abbrev pub force_place : ℕ → ℕ
force_place j = j * 95 + 55

-- U, D and the joint bias
abbrev pub term_place : ℕ → ℕ
term_place j = j * 95 + 61

abbrev pub acceleration_place : ℕ → ℕ
acceleration_place j = j * 95 + 69

-- its link's load
abbrev pub load_place : ℕ → ℕ
load_place j = j * 95 + 75

-- ---- behind n joints, the root's

abbrev pub root_inertia_place : ℕ → ℕ
root_inertia_place n = n * 95

abbrev pub root_force_place : ℕ → ℕ
root_force_place n = n * 95 + 36

abbrev pub root_acceleration_place : ℕ → ℕ
root_acceleration_place n = n * 95 + 42

-- the results wait here
abbrev pub results_place : ℕ → ℕ
results_place n = n * 95 + 48

-- how many numbers n joints need
abbrev pub room_of : ℕ → ℕ
room_of n = n * 96 + 64

-- ---- what the steps of the code promise each other

-- a workspace has room for it
pub record Room (p : Plan) (ws : ℕ) : Type 0 where
  pub few : p.n ≤ 32
  pub small : p.side ≤ p.n + 6
  pub room : room_of p.n ≤ ws
