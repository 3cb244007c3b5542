-- Frames (document 01, "Number rules"). Definitions only.
use Rattle.std.specs.Prelude.{Float}
use Rattle.numbers.specs.Double.{0·0}
use Rattle.numbers.specs.Vec3.{vec_by, plus_of, scale_of}
use Rattle.numbers.specs.Quaternion.{rotate_of, product_of as quaternion_product}
use Rattle.half_turn.specs.declared.SinCos.{SinCos}
use Rattle.numbers.specs.declared.vec3.Vec3.{Vec3}
use Rattle.spatial.specs.declared.frame.Frame.{Frame}

-- translation t1 + (t2 rotated by quaternion 1), rotation product
unfoldable pub product_of : Frame → Frame → Frame
product_of a b =
    record {
      rotation = quaternion_product a.rotation b.rotation;
      translation = plus_of a.translation (rotate_of a.rotation b.translation);
    }

-- times the quaternion (cosine, axis × sine) with zero translation
unfoldable pub turn_of : Frame → Vec3 → SinCos → Frame
turn_of f axis v = product_of f (record { rotation = record { w = v.cos; u = scale_of axis v.sin }; translation = vec_by (λ i. 0·0) })

-- rotates (axis × q), adds that to the translation and keeps the rotation
unfoldable pub slide_of : Frame → Vec3 → Float → Frame
slide_of f axis q = record { rotation = f.rotation; translation = plus_of f.translation (rotate_of f.rotation (scale_of axis q)) }
