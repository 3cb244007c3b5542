-- Vectors of three. Definitions only.
use Rattle.std.specs.Prelude.{[], ◌∷◌, ℕ, get_or, Float}
use Rattle.std.specs.Float.{nan}
use Rattle.std.specs.Float.Ieee.{neg}
use Rattle.numbers.specs.Double.{◌⊕◌, ◌⊖◌, ◌⊗◌, ◌⊘◌}
use Rattle.numbers.specs.Sum.{sum_to}
use Rattle.numbers.specs.declared.vec3.Vec3.{Vec3}

-- component i
abbrev pub comp : Vec3 → ℕ → Float
comp v i = get_or (v.x ∷ v.y ∷ v.z ∷ []) i nan

abbrev pub vec_by : (ℕ → Float) → Vec3
vec_by f = record { x = f 0; y = f 1; z = f 2 }

-- component by component
unfoldable pub plus_of : Vec3 → Vec3 → Vec3
plus_of a b = vec_by (λ i. comp a i ⊕ comp b i)

unfoldable pub minus_of : Vec3 → Vec3 → Vec3
minus_of a b = vec_by (λ i. comp a i ⊖ comp b i)

unfoldable pub neg_of : Vec3 → Vec3
neg_of a = vec_by (λ i. neg (comp a i))

unfoldable pub scale_of : Vec3 → Float → Vec3
scale_of a k = vec_by (λ i. comp a i ⊗ k)

unfoldable pub over_of : Vec3 → Float → Vec3
over_of a k = vec_by (λ i. comp a i ⊘ k)

-- a · b
unfoldable pub dot_of : Vec3 → Vec3 → Float
unfolding sum_to
dot_of a b = sum_to (λ i. comp a i ⊗ comp b i) 3

-- a × b: a_y b_z - a_z b_y, the rest by rotation
unfoldable pub cross_of : Vec3 → Vec3 → Vec3
cross_of a b =
    record {
      x = a.y ⊗ b.z ⊖ a.z ⊗ b.y;
      y = a.z ⊗ b.x ⊖ a.x ⊗ b.z;
      z = a.x ⊗ b.y ⊖ a.y ⊗ b.x;
    }
