-- Twists, angular first. Definitions only.
use Rattle.std.specs.Prelude.{Bool, List, [], ◌∷◌, ◌+◌, get_or, Float}
use Rattle.std.specs.Float.{nan}
use Rattle.numbers.specs.Double.{0·0, all_finite}
use Rattle.numbers.specs.Vec3.{vec_by, plus_of as vec_plus, scale_of as vec_scale}
use Rattle.numbers.specs.Quaternion.{rotate_of}
use Rattle.numbers.specs.declared.quaternion.Quaternion.{Quaternion}
use Rattle.spatial.specs.declared.twist.Twist.{Twist}

unfoldable pub zeros_of : Twist
zeros_of = record { angular = vec_by (λ i. 0·0); linear = vec_by (λ i. 0·0) }

unfoldable pub plus_of : Twist → Twist → Twist
plus_of a b = record { angular = vec_plus a.angular b.angular; linear = vec_plus a.linear b.linear }

unfoldable pub scale_of : Twist → Float → Twist
scale_of a k = record { angular = vec_scale a.angular k; linear = vec_scale a.linear k }

unfoldable pub rotated_of : Twist → Quaternion → Twist
rotated_of a q = record { angular = rotate_of q a.angular; linear = rotate_of q a.linear }

-- as six numbers, and back
abbrev pub vector_of : Twist → List Float
vector_of a = a.angular.x ∷ a.angular.y ∷ a.angular.z ∷ a.linear.x ∷ a.linear.y ∷ a.linear.z ∷ []

abbrev pub of_vector : List Float → Twist
of_vector v = record { angular = vec_by (λ i. get_or v i nan); linear = vec_by (λ i. get_or v (3 + i) nan) }

abbrev pub finite_of : Twist → Bool
finite_of a = all_finite (vector_of a)
