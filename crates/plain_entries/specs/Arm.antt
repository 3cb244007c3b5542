-- An arm with every joint at its value, as the plain engine sees it (document 02, item 10). Definitions only.
-- Joint j stands on link `parent j` and carries link j + 1; link 0 is the root.
use Rattle.std.specs.Prelude.{List, ℕ, Float}
use Rattle.spatial.specs.declared.frame.Frame.{Frame}
use Rattle.arm.specs.Model.{parent_of, motion_of, rotor_of, link_of}
use Rattle.arm.specs.Topology.{joint_frame}
use Rattle.arm.specs.declared.joint.Motion.{Motion}
use Rattle.arm.specs.declared.model.Link.{Link}
use Rattle.arm.specs.declared.model.Model.{Model}

pub record Arm : Type 0 where
  pub n : ℕ
  pub parent : ℕ → ℕ
  pub motion : ℕ → Motion
  -- a joint's frame in its parent link
  pub frame : ℕ → Frame
  pub rotor : ℕ → Float
  pub link : ℕ → Link

-- the model's, at the numbers q
abbrev pub arm_of : Model → List Float → Arm
arm_of m q =
    record {
      n = m.n;
      parent = parent_of m.parents;
      motion = motion_of m.kinds m.axes;
      frame = joint_frame m.parents m.kinds m.origins m.axes q;
      rotor = rotor_of m.rotors;
      link = link_of m.links;
    }
