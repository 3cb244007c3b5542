-- Quaternions (w, u), u = (x, y, z): document 01, "Number rules". Definitions only.
use Rattle.std.specs.Prelude.{Float}
use Rattle.numbers.specs.Double.{◌⊕◌, ◌⊖◌, ◌⊗◌, 2·0}
use Rattle.numbers.specs.Vec3.{plus_of, neg_of, scale_of, cross_of}
use Rattle.numbers.specs.declared.vec3.Vec3.{Vec3}
use Rattle.numbers.specs.declared.mat3.Mat3.{Mat3}
use Rattle.numbers.specs.declared.quaternion.Quaternion.{Quaternion}

-- a b
unfoldable pub product_of : Quaternion → Quaternion → Quaternion
product_of a b =
    let aw = a.w in let ax = a.u.x in let ay = a.u.y in let az = a.u.z in
    let bw = b.w in let bx = b.u.x in let by = b.u.y in let bz = b.u.z in
    record {
      w = aw ⊗ bw ⊖ ax ⊗ bx ⊖ ay ⊗ by ⊖ az ⊗ bz;
      u = record {
        x = aw ⊗ bx ⊕ ax ⊗ bw ⊕ ay ⊗ bz ⊖ az ⊗ by;
        y = aw ⊗ by ⊖ ax ⊗ bz ⊕ ay ⊗ bw ⊕ az ⊗ bx;
        z = aw ⊗ bz ⊕ ax ⊗ by ⊖ ay ⊗ bx ⊕ az ⊗ bw;
      };
    }

-- the inverse of a unit quaternion
unfoldable pub inverse_of : Quaternion → Quaternion
inverse_of q = record { w = q.w; u = neg_of q.u }

-- v rotated: t = 2(u × v); (t w + u × t) + v
unfoldable pub rotate_of : Quaternion → Vec3 → Vec3
rotate_of q v = let t = scale_of (cross_of q.u v) 2·0 in plus_of (plus_of (scale_of t q.w) (cross_of q.u t)) v

-- a mixed product, doubled after multiplying
abbrev twice : Float → Float → Float
twice a b = a ⊗ b ⊗ 2·0

-- the rotation matrix, by rows
unfoldable pub matrix_of : Quaternion → Mat3
matrix_of q =
    let w = q.w in let x = q.u.x in let y = q.u.y in let z = q.u.z in
    let ww = w ⊗ w in let xx = x ⊗ x in let yy = y ⊗ y in let zz = z ⊗ z in
    record {
      r0 = record { x = ww ⊕ xx ⊖ yy ⊖ zz; y = twice x y ⊖ twice w z; z = twice w y ⊕ twice x z };
      r1 = record { x = twice w z ⊕ twice x y; y = ww ⊖ xx ⊕ yy ⊖ zz; z = twice y z ⊖ twice w x };
      r2 = record { x = twice x z ⊖ twice w y; y = twice w x ⊕ twice y z; z = ww ⊖ xx ⊖ yy ⊕ zz };
    }
