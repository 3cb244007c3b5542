-- The spatial operators, each in the grouping of the Rust. Definitions only.
use Rattle.std.specs.Prelude.{Float}
use Rattle.numbers.specs.Double.{◌⊕◌}
use Rattle.numbers.specs.Vec3.{plus_of, dot_of, cross_of}
use Rattle.numbers.specs.Quaternion.{inverse_of, rotate_of}
use Rattle.spatial.specs.declared.frame.Frame.{Frame}
use Rattle.spatial.specs.declared.twist.Twist.{Twist}
use Rattle.spatial.specs.declared.wrench.Wrench.{Wrench}

-- a wrench at a frame's child, at its parent
unfoldable pub wrench_to_parent : Frame → Wrench → Wrench
wrench_to_parent f w =
    let force = rotate_of f.rotation w.force in
    record { torque = plus_of (rotate_of f.rotation w.torque) (cross_of f.translation force); force = force }

-- a twist at a frame's parent, at its child
unfoldable pub motion_to_child : Frame → Twist → Twist
motion_to_child f v =
    let inverse = inverse_of f.rotation in
    record {
      angular = rotate_of inverse v.angular;
      linear = rotate_of inverse (plus_of v.linear (cross_of v.angular f.translation));
    }

-- a × b of twists
unfoldable pub motion_cross : Twist → Twist → Twist
motion_cross a b =
    record {
      angular = cross_of a.angular b.angular;
      linear = plus_of (cross_of a.linear b.angular) (cross_of a.angular b.linear);
    }

-- v ×* w
unfoldable pub force_cross : Twist → Wrench → Wrench
force_cross v w =
    record {
      torque = plus_of (cross_of v.angular w.torque) (cross_of v.linear w.force);
      force = cross_of v.angular w.force;
    }

-- the power of w at v: two dot products, added
unfoldable pub motion_force_dot : Twist → Wrench → Float
motion_force_dot v w = dot_of v.angular w.torque ⊕ dot_of v.linear w.force
