-- A joint's motion, the rule of its origin's rotation, and its frame (document 01, "Model" and "Number rules"); its rotor (document 02, item 11). Definitions only.
use Rattle.std.specs.Prelude.{Bool, cond, Option, Some, None, List, [], ◌∷◌, ◌≡◌, ℕ, eqb, Float}
use Rattle.std.specs.Float.Ieee.{lt, ne}
use Rattle.numbers.specs.Double.{◌⊕◌, ◌⊖◌, ◌⊗◌, bits, 0·0, 1·0, abs_of}
use Rattle.half_turn.specs.HalfTurn.{half_turn_of}
use Rattle.half_turn.specs.declared.SinCos.{SinCos}
use Rattle.numbers.specs.declared.quaternion.Quaternion.{Quaternion}
use Rattle.numbers.specs.declared.vec3.Vec3.{Vec3}
use Rattle.spatial.specs.Frame.{turn_of, slide_of}
use Rattle.spatial.specs.declared.frame.Frame.{Frame}
use Rattle.arm.specs.declared.joint.Motion.{Motion}
use Rattle.arm.specs.declared.joint.Motion.TheVariants.{Turn, Slide, Fixed}

-- ---- motion

abbrev pub components : Vec3 → List Float
components v = v.x ∷ v.y ∷ v.z ∷ []

-- the document's kind of each motion, and its values: the axis of a turn or a slide, nothing of a fixed joint
abbrev pub kind_number : Motion → ℕ
kind_number (Turn axis) = 0
kind_number (Slide axis) = 1
kind_number Fixed = 2

abbrev pub motion_values : Motion → List Float
motion_values (Turn axis) = components axis
motion_values (Slide axis) = components axis
motion_values Fixed = []

abbrev pub is_fixed : ℕ → Bool
is_fixed kind = eqb kind (kind_number Fixed)

-- the motion of a kind
unfoldable pub motion_by : ℕ → Vec3 → Motion
motion_by kind axis = cond (eqb kind (kind_number (Turn axis))) (Turn axis) (cond (eqb kind (kind_number (Slide axis))) (Slide axis) Fixed)

-- what a motion has to be, of a kind and an axis
pub record MotionIs (kind : ℕ) (axis : Vec3) (motion : Motion) : Type 0 where
  pub number : kind_number motion ≡ kind
  pub values : motion_values motion ≡ cond (is_fixed kind) [] (components axis)

-- ---- the rule of a rotation (refusals 7 and 22)

-- 2 ^ -40
abbrev pub slack : Float
slack = bits 0x3D70_0000_0000_0000

-- ((w²+x²)+y²)+z² differs from 1 by more than 2 ^ -40
unfoldable pub not_unit : Quaternion → Bool
not_unit q = lt slack (abs_of (q.w ⊗ q.w ⊕ q.u.x ⊗ q.u.x ⊕ q.u.y ⊗ q.u.y ⊕ q.u.z ⊗ q.u.z ⊖ 1·0))

-- ---- the frame

-- out of range, which a call refuses beforehand, the origin
unfoldable pub turned_of : Frame → Vec3 → Option SinCos → Frame
turned_of origin axis (Some v) = turn_of origin axis v
turned_of origin axis None = origin

-- the joint's frame in its parent link, at the value q
unfoldable pub frame_of : Frame → Motion → Float → Frame
frame_of origin (Turn axis) q = turned_of origin axis (half_turn_of q)
frame_of origin (Slide axis) q = slide_of origin axis q
frame_of origin Fixed q = origin

-- ---- the rotor

-- THE ROTOR RULE: added to a dot product; where it is a zero of either sign, nothing is
unfoldable pub with_rotor : Float → Float → Float
with_rotor rotor x = cond (ne rotor 0·0) (x ⊕ rotor) x
