-- Inertias of bodies: 6×6 matrices, row by row in one list, angular first (`forward_dynamics.rs`). Definitions only.
use Rattle.std.specs.Prelude.{Bool, cond, ◌&&◌, List, [], ◌∷◌, ℕ, ◌+◌, ◌*◌, ◌/◌, ◌%◌, get_or, Float}
use Rattle.std.specs.Float.{nan}
use Rattle.std.specs.Float.Ieee.{eq}
use Rattle.numbers.specs.Double.{◌⊕◌, ◌⊖◌, ◌⊗◌, ◌⊘◌, 0·0, 0·5, 1·0, abs_of}
use Rattle.numbers.specs.Sum.{sum_to}
use Rattle.numbers.specs.Table.{tab}
use Rattle.numbers.specs.Vec3.{comp, vec_by}
use Rattle.numbers.specs.Mat3.{mat_by, plus_of, minus_of, neg_of, transpose_of, times_of, turned_of, identity_by, cross_matrix_of, cell as cell3}
use Rattle.mat6.specs.Mat6.{cell, apply_of, mat_by as mat_by6}
use Rattle.numbers.specs.Quaternion.{matrix_of}
use Rattle.numbers.specs.declared.vec3.Vec3.{Vec3}
use Rattle.numbers.specs.declared.mat3.Mat3.{Mat3}
use Rattle.spatial.specs.Twist.{vector_of}
use Rattle.spatial.specs.Wrench.{of_vector, zeros_of}
use Rattle.spatial.specs.declared.frame.Frame.{Frame}
use Rattle.spatial.specs.declared.twist.Twist.{Twist}
use Rattle.spatial.specs.declared.wrench.Wrench.{Wrench}
use Rattle.arm.specs.declared.joint.Motion.{Motion}
use Rattle.arm.specs.declared.joint.Motion.TheVariants.{Turn, Slide, Fixed}

-- ---- blocks

-- the block whose first entry is (i, j)
unfoldable pub block_of : List Float → ℕ → ℕ → Mat3
block_of m i j = mat_by (λ r c. cell m (i + r) (j + c))

-- the matrix of four blocks, a b above c d
unfoldable pub from_blocks : Mat3 → Mat3 → Mat3 → Mat3 → List Float
unfolding tab
from_blocks a b c d = mat_by6 (λ i j. cell3 (get_or (a ∷ b ∷ c ∷ d ∷ []) (2 * (i / 3) + j / 3) a) (i % 3) (j % 3))

-- a rigid body's: every product of the mass and the identity is made, and the negated cross matrix has -0.0 on its diagonal
unfoldable pub rigid_of : Float → Vec3 → Mat3 → List Float
rigid_of mass moment inertia = let p = cross_matrix_of moment in from_blocks inertia p (neg_of p) (identity_by mass)

-- ---- times a motion

unfoldable pub inertia_apply : List Float → Twist → Wrench
inertia_apply m v = of_vector (apply_of m (vector_of v))

abbrev pub wrench_by : (ℕ → Float) → Wrench
wrench_by f = record { torque = vec_by f; force = vec_by (λ i. f (3 + i)) }

-- row i of the three columns from o, times the axis
unfoldable pub row_part : List Float → ℕ → ℕ → Vec3 → Float
unfolding sum_to
row_part m i o a = sum_to (λ k. cell m i (o + k) ⊗ comp a k) 3

unfoldable pub columns_of : List Float → ℕ → Vec3 → Wrench
columns_of m o a = wrench_by (λ i. row_part m i o a)

-- column j, times the sign
unfoldable pub signed_column : List Float → ℕ → Float → Wrench
signed_column m j s = wrench_by (λ i. cell m i j ⊗ s)

-- s is exactly ±1, and the others are zeros
unfoldable pub unit : Float → Float → Float → Bool
unit s a b = eq (abs_of s) 1·0 && (eq a 0·0 && eq b 0·0)

-- only an exact cardinal axis takes the column path
unfoldable pub along_of : List Float → ℕ → Vec3 → Wrench
along_of m o a =
    cond (unit a.x a.y a.z) (signed_column m o a.x)
    (cond (unit a.y a.x a.z) (signed_column m (o + 1) a.y)
    (cond (unit a.z a.x a.y) (signed_column m (o + 2) a.z)
    (columns_of m o a)))

unfoldable pub inertia_apply_joint : List Float → Motion → Wrench
inertia_apply_joint m (Turn axis) = along_of m 0 axis
inertia_apply_joint m (Slide axis) = along_of m 3 axis
inertia_apply_joint m Fixed = zeros_of

-- the twist of a joint's motion at unit speed
unfoldable pub subspace_of : Motion → Twist
subspace_of (Turn axis) = record { angular = axis; linear = vec_by (λ i. 0·0) }
subspace_of (Slide axis) = record { angular = vec_by (λ i. 0·0); linear = axis }
subspace_of Fixed = record { angular = vec_by (λ i. 0·0); linear = vec_by (λ i. 0·0) }

-- ---- to the parent

-- the blocks, turned already, moved by the translation whose cross matrix is p
unfoldable pub moved_of : Mat3 → Mat3 → Mat3 → Mat3 → List Float
moved_of p angular coupling linear =
    let translated_coupling = plus_of coupling (times_of p linear) in
    let translated_angular = minus_of (plus_of angular (times_of p (transpose_of coupling))) (times_of translated_coupling p) in
    from_blocks translated_angular translated_coupling (transpose_of translated_coupling) linear

unfoldable pub inertia_to_parent : Frame → List Float → List Float
inertia_to_parent f m =
    let r = matrix_of f.rotation in
    moved_of (cross_matrix_of f.translation) (turned_of r (block_of m 0 0)) (turned_of r (block_of m 0 3)) (turned_of r (block_of m 3 3))

-- ---- entry by entry

-- m - (u uᵀ) / d
unfoldable pub reduce_of : List Float → List Float → Float → List Float
unfolding tab
reduce_of m u d = tab (λ t. get_or m t nan ⊖ (get_or u (t / 6) nan ⊗ get_or u (t % 6) nan) ⊘ d) 36

-- m * 0.5 + mᵀ * 0.5
unfoldable pub average_of : List Float → List Float
unfolding tab
average_of m = mat_by6 (λ i j. cell m i j ⊗ 0·5 ⊕ cell m j i ⊗ 0·5)
