-- What a joint's link hands on is added to its parent's, or to the root's. Definitions only.
use Rattle.std.specs.Prelude.{List, ℕ, ◌+◌, Float}
use Rattle.mat6.specs.Mat6.{plus_of}
use Rattle.spatial.specs.Operators.{wrench_to_parent}
use Rattle.spatial.specs.Wrench.{plus_of as wrench_plus}
use Rattle.spatial.specs.declared.wrench.Wrench.{Wrench}
use Rattle.slots.specs.Slots.{frame_at, wrench_at, mat6_at, put_wrench, put_mat6}
use Rattle.inertia.specs.Inertia.{inertia_to_parent}
use Rattle.forward_slots.specs.Layout.{frame_place}

-- an inertia and a force are added to those at a place: the force stands behind the 36 numbers of the inertia
unfoldable pub add_body : ℕ → List Float → Wrench → List Float → List Float
add_body at moved w ws = put_wrench (put_mat6 ws at (plus_of (mat6_at ws at) moved)) (at + 36) (wrench_plus (wrench_at ws (at + 36)) w)

-- those of joint j's link, moved to its parent
unfoldable pub add_moved : List Float → Wrench → ℕ → ℕ → List Float → List Float
add_moved inertia force at j ws = let frame = frame_at ws (frame_place j) in add_body at (inertia_to_parent frame inertia) (wrench_to_parent frame force) ws
