-- Composites: mass, first moment and inertia of all that a joint carries, in the grouping of the Rust. Definitions only.
use Rattle.std.specs.Prelude.{List, ℕ, ◌+◌, get_or, set, Float}
use Rattle.std.specs.Float.{nan}
use Rattle.numbers.specs.Double.{◌⊕◌, ◌⊗◌, 0·0, 2·0}
use Rattle.numbers.specs.Vec3.{plus_of, scale_of, dot_of, cross_of}
use Rattle.numbers.specs.Quaternion.{matrix_of}
use Rattle.numbers.specs.Mat3.{apply_of, turned_of, outer_of, identity_by, minus_of, plus_of as mat_plus}
use Rattle.numbers.specs.declared.vec3.Vec3.{Vec3}
use Rattle.numbers.specs.declared.mat3.Mat3.{Mat3}
use Rattle.spatial.specs.Wrench.{zeros_of}
use Rattle.spatial.specs.declared.frame.Frame.{Frame}
use Rattle.spatial.specs.declared.wrench.Wrench.{Wrench}
use Rattle.slots.specs.Slots.{vec3_at, put_vec3, mat3_at, put_mat3}
use Rattle.arm.specs.declared.joint.Motion.{Motion}
use Rattle.arm.specs.declared.joint.Motion.TheVariants.{Turn, Slide, Fixed}
use Rattle.arm.specs.declared.model.Link.{Link}

-- ---- 13 numbers of a workspace: mass, moment, the inertia's rows

unfoldable pub composite_at : List Float → ℕ → Link
composite_at s at = record { mass = get_or s at nan; moment = vec3_at s (at + 1); inertia = mat3_at s (at + 4) }

unfoldable pub put_composite : List Float → ℕ → Link → List Float
put_composite s at c = put_mat3 (put_vec3 (set s at c.mass) (at + 1) c.moment) (at + 4) c.inertia

-- ---- about the parent link's origin

-- i + (m t·t + 2 t·h) 1 - (m t) tᵀ - t hᵀ - h tᵀ
unfoldable pub shifted_of : Mat3 → Float → Vec3 → Vec3 → Mat3
shifted_of i mass t h =
    minus_of
    (minus_of
    (minus_of
    (mat_plus i (identity_by (mass ⊗ dot_of t t ⊕ 2·0 ⊗ dot_of t h)))
    (outer_of (scale_of t mass) t))
    (outer_of t h))
    (outer_of h t)

unfoldable pub to_parent_of : Link → Frame → Link
to_parent_of c f =
    let rotation = matrix_of f.rotation in
    let t = f.translation in
    let h = apply_of rotation c.moment in
    record {
      mass = c.mass;
      moment = plus_of (scale_of t c.mass) h;
      inertia = shifted_of (turned_of rotation c.inertia) c.mass t h;
    }

unfoldable pub joined_of : Link → Link → Link
joined_of a b =
    record {
      mass = a.mass ⊕ b.mass;
      moment = plus_of a.moment b.moment;
      inertia = mat_plus a.inertia b.inertia;
    }

-- F = I S, the wrench that a composite answers a motion with
unfoldable pub force_of : Motion → Link → Wrench
force_of (Turn axis) c = record { torque = apply_of c.inertia axis; force = cross_of axis c.moment }
force_of (Slide axis) c = record { torque = cross_of c.moment axis; force = scale_of axis c.mass }
force_of Fixed c = zeros_of

-- S·F, what a wrench gives along a motion
unfoldable pub entry_of : Motion → Wrench → Float
entry_of (Turn axis) w = dot_of axis w.torque
entry_of (Slide axis) w = dot_of axis w.force
entry_of Fixed w = 0·0
