-- The joints rising, first pass (`forward_dynamics.rs`). Definitions only.
use Rattle.std.specs.Prelude.{cond, List, ℕ, ◌+◌, ◌-◌, eqb, Float}
use Rattle.spatial.specs.declared.twist.Twist.{Twist}
use Rattle.slots.specs.Slots.{twist_at, wrench_at, put_frame, put_twist, put_wrench, put_mat6}
use Rattle.arm.specs.Model.{joint_of, link_of}
use Rattle.arm.specs.Topology.{value_of, joint_frame}
use Rattle.articulated.specs.First.{body_inertia, first_of}
use Rattle.articulated.specs.declared.first.First.{First}
use Rattle.forward_slots.specs.Layout.{frame_place, velocity_place, bias_place, inertia_place, force_place, load_place}

-- a parent link's twist: the root's, or the one at a place of the parent's joint
unfoldable pub parent_twist : List Float → ℕ → Twist → ℕ → Twist
parent_twist ws parent root at = cond (eqb parent 0) root (twist_at ws at)

unfoldable pub put_first : List Float → ℕ → First → List Float
put_first ws j f =
    put_wrench (put_twist (put_twist (put_frame ws (frame_place j) f.frame) (velocity_place j) f.velocity) (bias_place j) f.bias) (force_place j) f.force

-- what joint j works out, of a link with this inertia; `velocity` is the root's
unfoldable pub first_at : Twist → List ℕ → List ℕ → List Float → List Float → List Float → List Float → List Float → ℕ → List Float → First
first_at velocity parents kinds origins axes q qd inertia j ws =
    let joint = joint_of parents kinds origins axes j in
    first_of (joint_frame parents kinds origins axes q j) joint.motion (value_of kinds qd j) (parent_twist ws joint.parent velocity (velocity_place (joint.parent - 1))) inertia (wrench_at ws (load_place j))

unfoldable pub first_visit : Twist → List ℕ → List ℕ → List Float → List Float → List Float → List Float → List Float → ℕ → List Float → List Float
first_visit velocity parents kinds origins axes links q qd j ws =
    let inertia = body_inertia (link_of links (j + 1)) in
    put_mat6 (put_first ws j (first_at velocity parents kinds origins axes q qd inertia j ws)) (inertia_place j) inertia
