-- The root: its velocity, gravity there, and a floating base's acceleration (`forward_dynamics.rs`). Definitions only.
use Rattle.std.specs.Prelude.{cond, List, ℕ, eqb, Float, None, Result, Ok, Err}
use Rattle.numbers.specs.Double.{bits, 0·0}
use Rattle.numbers.specs.Vec3.{vec_by, plus_of, minus_of, cross_of}
use Rattle.numbers.specs.Quaternion.{inverse_of, rotate_of}
use Rattle.numbers.specs.declared.vec3.Vec3.{Vec3}
use Rattle.numbers.specs.declared.quaternion.Quaternion.{Quaternion}
use Rattle.refusals.specs.Refusals.{refusal}
use Rattle.refusals.specs.declared.Refusal.{Refusal}
use Rattle.spatial.specs.Twist.{rotated_of, finite_of}
use Rattle.spatial.specs.Wrench.{vector_of, minus_of as wrench_minus, rotated_of as wrench_rotated}
use Rattle.spatial.specs.declared.twist.Twist.{Twist}
use Rattle.spatial.specs.declared.wrench.Wrench.{Wrench}
use Rattle.inertia.specs.Inertia.{average_of}
use Rattle.base_solve.specs.BaseSolve.{base_solve}
use Rattle.articulated.specs.declared.root.Base.{Base}

-- the base's velocity in the world, at the root
unfoldable pub root_velocity : Quaternion → Twist → Twist
root_velocity rotation velocity = rotated_of velocity (inverse_of rotation)

-- 9.80665
abbrev pub gravity : Float
gravity = bits 0x4023_9d01_3a92_a305

unfoldable pub gravity_local : Quaternion → Vec3
gravity_local rotation = rotate_of (inverse_of rotation) (record { x = 0·0; y = 0·0; z = gravity })

-- a fixed root is accelerated against gravity
unfoldable pub fixed_acceleration : Quaternion → Twist
fixed_acceleration rotation = record { angular = vec_by (λ i. 0·0); linear = gravity_local rotation }

-- the base's force, given in the world, less the bias
unfoldable pub right_side : Quaternion → Wrench → Wrench → Wrench
right_side rotation force bias = wrench_minus (wrench_rotated force (inverse_of rotation)) bias

-- the physical acceleration in the world
unfoldable pub world_acceleration : Quaternion → Twist → Twist → Twist
world_acceleration rotation velocity a =
    rotated_of (record { angular = a.angular; linear = plus_of (minus_of a.linear (gravity_local rotation)) (cross_of velocity.angular velocity.linear) }) rotation

unfoldable pub refused_base : ℕ → Result Base Refusal
refused_base number = Err (refusal number None)

-- 35: floating base acceleration not finite
unfoldable pub judged_base : Quaternion → Twist → Twist → Result Base Refusal
judged_base rotation velocity a =
    let world = world_acceleration rotation velocity a in
    cond (finite_of world) (Ok (record { acceleration = a; world = world })) (refused_base 35)

-- what the base solve refuses by 32, 33 or 34 is refused
unfoldable pub solved_base : Quaternion → Twist → ℕ × Twist → Result Base Refusal
solved_base rotation velocity s = cond (eqb s.0 0) (judged_base rotation velocity s.1) (refused_base s.0)

unfoldable pub base_of : Quaternion → Twist → List Float → Wrench → Wrench → Result Base Refusal
base_of rotation velocity inertia bias force = solved_base rotation velocity (base_solve (average_of inertia) (vector_of (right_side rotation force bias)))
