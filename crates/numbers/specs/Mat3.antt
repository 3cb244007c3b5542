-- 3×3 matrices, by rows. Definitions only.
use Rattle.std.specs.Prelude.{cond, [], ◌∷◌, ℕ, ◌+◌, ◌*◌, eqb, get_or, Float}
use Rattle.std.specs.Float.{nan}
use Rattle.std.specs.Float.Ieee.{neg}
use Rattle.numbers.specs.Double.{◌⊕◌, ◌⊖◌, ◌⊗◌, 0·0, 1·0}
use Rattle.numbers.specs.Sum.{sum_to}
use Rattle.numbers.specs.Vec3.{comp, vec_by}
use Rattle.numbers.specs.declared.vec3.Vec3.{Vec3}
use Rattle.numbers.specs.declared.mat3.Mat3.{Mat3}

-- the entry of row i and column j
abbrev pub cell : Mat3 → ℕ → ℕ → Float
cell m i j = get_or (m.r0.x ∷ m.r0.y ∷ m.r0.z ∷ m.r1.x ∷ m.r1.y ∷ m.r1.z ∷ m.r2.x ∷ m.r2.y ∷ m.r2.z ∷ []) (3 * i + j) nan

abbrev pub mat_by : (ℕ → ℕ → Float) → Mat3
mat_by f = record { r0 = vec_by (f 0); r1 = vec_by (f 1); r2 = vec_by (f 2) }

-- entry by entry
unfoldable pub plus_of : Mat3 → Mat3 → Mat3
plus_of a b = mat_by (λ i j. cell a i j ⊕ cell b i j)

unfoldable pub minus_of : Mat3 → Mat3 → Mat3
minus_of a b = mat_by (λ i j. cell a i j ⊖ cell b i j)

unfoldable pub neg_of : Mat3 → Mat3
neg_of m = mat_by (λ i j. neg (cell m i j))

unfoldable pub transpose_of : Mat3 → Mat3
transpose_of m = mat_by (λ i j. cell m j i)

-- m v
unfoldable pub apply_of : Mat3 → Vec3 → Vec3
unfolding sum_to
apply_of m v = vec_by (λ i. sum_to (λ k. cell m i k ⊗ comp v k) 3)

-- a b
unfoldable pub times_of : Mat3 → Mat3 → Mat3
unfolding sum_to
times_of a b = mat_by (λ i j. sum_to (λ k. cell a i k ⊗ cell b k j) 3)

-- r m rᵀ, by two products
unfoldable pub turned_of : Mat3 → Mat3 → Mat3
turned_of r m = times_of (times_of r m) (transpose_of r)

-- a bᵀ
unfoldable pub outer_of : Vec3 → Vec3 → Mat3
outer_of a b = mat_by (λ i j. comp a i ⊗ comp b j)

-- s times the identity: every product is made, those with a zero too
unfoldable pub identity_by : Float → Mat3
identity_by s = mat_by (λ i j. s ⊗ cond (eqb i j) 1·0 0·0)

-- [v]×, the matrix of v × ..
unfoldable pub cross_matrix_of : Vec3 → Mat3
cross_matrix_of v =
    record {
      r0 = record { x = 0·0; y = neg v.z; z = v.y };
      r1 = record { x = v.z; y = 0·0; z = neg v.x };
      r2 = record { x = neg v.y; y = v.x; z = 0·0 };
    }
