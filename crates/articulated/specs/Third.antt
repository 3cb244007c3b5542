-- Third pass: a link's acceleration and its joint's (`forward_dynamics.rs`). Definitions only.
use Rattle.std.specs.Prelude.{Float}
use Rattle.numbers.specs.Double.{◌⊖◌, ◌⊘◌}
use Rattle.spatial.specs.Operators.{motion_to_child, motion_force_dot}
use Rattle.spatial.specs.Twist.{plus_of, scale_of}
use Rattle.spatial.specs.declared.frame.Frame.{Frame}
use Rattle.spatial.specs.declared.twist.Twist.{Twist}
use Rattle.arm.specs.declared.joint.Motion.{Motion}
use Rattle.inertia.specs.Inertia.{subspace_of}
use Rattle.articulated.specs.declared.second.Term.{Term}

-- before the joint's own acceleration: the parent's at the child, and the velocity bias
unfoldable pub carried_acceleration : Frame → Twist → Twist → Twist
carried_acceleration frame parent bias = plus_of (motion_to_child frame parent) bias

-- (bias - acceleration · U) / D
unfoldable pub joint_acceleration : Twist → Term → Float
joint_acceleration a t = (t.bias ⊖ motion_force_dot a t.u) ⊘ t.d

unfoldable pub moved_by : Motion → Twist → Float → Twist
moved_by motion a x = plus_of a (scale_of (subspace_of motion) x)
