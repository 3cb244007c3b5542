-- Wrenches, torque first. Definitions only.
use Rattle.std.specs.Prelude.{Bool, List, [], ◌∷◌, ◌+◌, get_or, Float}
use Rattle.std.specs.Float.{nan}
use Rattle.numbers.specs.Double.{0·0, all_finite}
use Rattle.numbers.specs.Vec3.{vec_by, plus_of as vec_plus, minus_of as vec_minus, scale_of as vec_scale}
use Rattle.numbers.specs.Quaternion.{rotate_of}
use Rattle.numbers.specs.declared.quaternion.Quaternion.{Quaternion}
use Rattle.spatial.specs.declared.wrench.Wrench.{Wrench}

unfoldable pub zeros_of : Wrench
zeros_of = record { torque = vec_by (λ i. 0·0); force = vec_by (λ i. 0·0) }

unfoldable pub plus_of : Wrench → Wrench → Wrench
plus_of a b = record { torque = vec_plus a.torque b.torque; force = vec_plus a.force b.force }

unfoldable pub minus_of : Wrench → Wrench → Wrench
minus_of a b = record { torque = vec_minus a.torque b.torque; force = vec_minus a.force b.force }

unfoldable pub scale_of : Wrench → Float → Wrench
scale_of a k = record { torque = vec_scale a.torque k; force = vec_scale a.force k }

unfoldable pub rotated_of : Wrench → Quaternion → Wrench
rotated_of a q = record { torque = rotate_of q a.torque; force = rotate_of q a.force }

-- as six numbers, and back
abbrev pub vector_of : Wrench → List Float
vector_of a = a.torque.x ∷ a.torque.y ∷ a.torque.z ∷ a.force.x ∷ a.force.y ∷ a.force.z ∷ []

abbrev pub of_vector : List Float → Wrench
of_vector v = record { torque = vec_by (λ i. get_or v i nan); force = vec_by (λ i. get_or v (3 + i) nan) }

abbrev pub finite_of : Wrench → Bool
finite_of a = all_finite (vector_of a)
