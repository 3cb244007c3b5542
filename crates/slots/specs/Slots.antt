-- What stands at an offset of a list of numbers, and the list with it put there. Past the list's end a number reads as NaN. Definitions only.
use Rattle.std.specs.Prelude.{List, ℕ, zero, suc, ◌+◌, length, get_or, set, Float}
use Rattle.std.specs.Float.{nan}
use Rattle.numbers.specs.Double.{0·0}
use Rattle.numbers.specs.Table.{tab}
use Rattle.numbers.specs.declared.vec3.Vec3.{Vec3}
use Rattle.numbers.specs.declared.mat3.Mat3.{Mat3}
use Rattle.spatial.specs.declared.frame.Frame.{Frame}
use Rattle.spatial.specs.declared.twist.Twist.{Twist}
use Rattle.spatial.specs.declared.wrench.Wrench.{Wrench}

abbrev pub vec3_at : List Float → ℕ → Vec3
vec3_at s at = record { x = get_or s at nan; y = get_or s (at + 1) nan; z = get_or s (at + 2) nan }

unfoldable pub put_vec3 : List Float → ℕ → Vec3 → List Float
put_vec3 s at v = set (set (set s at v.x) (at + 1) v.y) (at + 2) v.z

-- by rows
unfoldable pub mat3_at : List Float → ℕ → Mat3
mat3_at s at = record { r0 = vec3_at s at; r1 = vec3_at s (at + 3); r2 = vec3_at s (at + 6) }

unfoldable pub put_mat3 : List Float → ℕ → Mat3 → List Float
put_mat3 s at m = put_vec3 (put_vec3 (put_vec3 s at m.r0) (at + 3) m.r1) (at + 6) m.r2

-- 36 numbers, row by row
unfoldable pub mat6_at : List Float → ℕ → List Float
unfolding tab
mat6_at s at = tab (λ t. get_or s (at + t) nan) 36

-- the first n numbers of m
unfoldable pub put_to : List Float → ℕ → List Float → ℕ → List Float
put_to s at m zero = s
put_to s at m (suc n) = set (put_to s at m n) (at + n) (get_or m n nan)

abbrev pub put_mat6 : List Float → ℕ → List Float → List Float
put_mat6 s at m = put_to s at m 36

-- angular first
unfoldable pub twist_at : List Float → ℕ → Twist
twist_at s at = record { angular = vec3_at s at; linear = vec3_at s (at + 3) }

unfoldable pub put_twist : List Float → ℕ → Twist → List Float
put_twist s at v = put_vec3 (put_vec3 s at v.angular) (at + 3) v.linear

-- torque first
unfoldable pub wrench_at : List Float → ℕ → Wrench
wrench_at s at = record { torque = vec3_at s at; force = vec3_at s (at + 3) }

unfoldable pub put_wrench : List Float → ℕ → Wrench → List Float
put_wrench s at w = put_vec3 (put_vec3 s at w.torque) (at + 3) w.force

-- w, x, y, z of the rotation, then the translation
unfoldable pub frame_at : List Float → ℕ → Frame
frame_at s at = record { rotation = record { w = get_or s at nan; u = vec3_at s (at + 1) }; translation = vec3_at s (at + 4) }

unfoldable pub put_frame : List Float → ℕ → Frame → List Float
put_frame s at f = put_vec3 (put_vec3 (set s at f.rotation.w) (at + 1) f.rotation.u) (at + 4) f.translation

-- n numbers from `at` on are +0.0
unfoldable pub zero_to : List Float → ℕ → ℕ → List Float
zero_to s at zero = s
zero_to s at (suc n) = set (zero_to s at n) (at + n) 0·0

-- every number is +0.0
unfoldable pub cleared : List Float → List Float
cleared s = tab (λ i. 0·0) (length s)

-- n numbers from `at` on
unfoldable pub part_of : List Float → ℕ → ℕ → List Float
part_of s at n = tab (λ i. get_or s (at + i) nan) n
