-- What a fixed joint hands on: its inertia is whole. Definitions only.
use Rattle.std.specs.Prelude.{List, ℕ, Float}
use Rattle.slots.specs.Slots.{twist_at, wrench_at, mat6_at}
use Rattle.articulated.specs.Second.{carried_force}
use Rattle.forward_slots.specs.Layout.{bias_place, inertia_place, force_place}
use Rattle.forward_slots.specs.Body.{add_moved}

-- a fixed joint hands its inertia on whole
unfoldable pub add_whole : ℕ → ℕ → List Float → List Float
add_whole at j ws =
    let inertia = mat6_at ws (inertia_place j) in
    add_moved inertia (carried_force inertia (wrench_at ws (force_place j)) (twist_at ws (bias_place j))) at j ws
