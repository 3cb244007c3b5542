-- In range a turn's frame is the origin turned. A call refuses the others beforehand. Assumes nothing.
use mathlib.Core.Bool.{Bool, true, cond}
use mathlib.Core.Path.{◌≡◌}
use lib.Ieee.{Float}
use Rattle.half_turn.specs.HalfTurn.{in_range, half_turn_of}
use Rattle.std.specs.Prelude.{Some, None}
use Rattle.half_turn.specs.declared.SinCos.{SinCos}
use Rattle.numbers.specs.declared.vec3.Vec3.{Vec3}
use Rattle.spatial.specs.Frame.{turn_of}
use Rattle.spatial.specs.declared.frame.Frame.{Frame}
use Rattle.arm.specs.Joint.{turned_of, frame_of}
use Rattle.arm.specs.declared.joint.Motion.TheVariants.{Turn}

chosen : (b : Bool) (v : SinCos) → b ≡ true → (w : SinCos) × (cond b (Some v) None ≡ Some w)
chosen b v e = (v, rw e)

halves : (q : Float) → in_range q ≡ true → (v : SinCos) × (half_turn_of q ≡ Some v)
unfolding half_turn_of
halves q e = chosen (in_range q) _ e

pub turns : (origin : Frame) (axis : Vec3) (q : Float) → in_range q ≡ true → (v : SinCos) × (half_turn_of q ≡ Some v) × (frame_of origin (Turn axis) q ≡ turn_of origin axis v)
unfolding frame_of turned_of
turns origin axis q e = let h = halves q e in (h.0, h.1, rw h.1)
