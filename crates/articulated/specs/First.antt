-- First pass: a joint's frame, velocity, velocity bias and bias force (`forward_dynamics.rs`). Definitions only.
use Rattle.std.specs.Prelude.{List, Float}
use Rattle.spatial.specs.Operators.{motion_to_child, motion_cross, force_cross}
use Rattle.spatial.specs.Twist.{plus_of, scale_of}
use Rattle.spatial.specs.Wrench.{plus_of as wrench_plus}
use Rattle.spatial.specs.declared.frame.Frame.{Frame}
use Rattle.spatial.specs.declared.twist.Twist.{Twist}
use Rattle.spatial.specs.declared.wrench.Wrench.{Wrench}
use Rattle.arm.specs.declared.joint.Motion.{Motion}
use Rattle.arm.specs.declared.model.Link.{Link}
use Rattle.inertia.specs.Inertia.{rigid_of, inertia_apply, subspace_of}
use Rattle.articulated.specs.declared.first.First.{First}

unfoldable pub body_inertia : Link → List Float
body_inertia link = rigid_of link.mass link.moment link.inertia

-- velocity × momentum, and the load
unfoldable pub bias_force : List Float → Twist → Wrench → Wrench
bias_force inertia velocity load = wrench_plus (force_cross velocity (inertia_apply inertia velocity)) load

-- at speed qd, where the parent link moves with `parent`
unfoldable pub first_of : Frame → Motion → Float → Twist → List Float → Wrench → First
first_of frame motion qd parent inertia load =
    let joint_velocity = scale_of (subspace_of motion) qd in
    let velocity = plus_of (motion_to_child frame parent) joint_velocity in
    record {
      frame = frame;
      velocity = velocity;
      bias = motion_cross velocity joint_velocity;
      force = bias_force inertia velocity load;
    }
