-- What an active joint hands on: its inertia without what its own motion takes up. Definitions only.
use Rattle.std.specs.Prelude.{List, ℕ, Float}
use Rattle.spatial.specs.Wrench.{vector_of}
use Rattle.slots.specs.Slots.{twist_at, wrench_at, mat6_at}
use Rattle.inertia.specs.Inertia.{reduce_of}
use Rattle.articulated.specs.Second.{reduced_force}
use Rattle.forward_slots.specs.Layout.{bias_place, inertia_place, force_place, term_place}
use Rattle.forward_slots.specs.Term.{term_at}
use Rattle.forward_slots.specs.Body.{add_moved}

-- joint j's inertia without what its own motion takes up
unfoldable pub reduced_at : ℕ → List Float → List Float
reduced_at j ws = let t = term_at ws (term_place j) in reduce_of (mat6_at ws (inertia_place j)) (vector_of t.u) t.d

unfoldable pub add_reduced : ℕ → ℕ → List Float → List Float
add_reduced at j ws =
    let inertia = reduced_at j ws in
    add_moved inertia (reduced_force inertia (wrench_at ws (force_place j)) (twist_at ws (bias_place j)) (term_at ws (term_place j))) at j ws
