-- Second pass: an active joint's terms and their tests, and the force that goes to the parent (`forward_dynamics.rs`; document 02, item 11). Definitions only.
use Rattle.std.specs.Prelude.{cond, List, ℕ, Float, Some}
use Rattle.std.specs.Float.Ieee.{le}
use Rattle.numbers.specs.Double.{◌⊖◌, ◌⊘◌, 0·0, finite}
use Rattle.refusals.specs.Refusals.{Verdict, fine, refused}
use Rattle.spatial.specs.Operators.{motion_force_dot}
use Rattle.spatial.specs.Wrench.{plus_of, scale_of}
use Rattle.spatial.specs.declared.twist.Twist.{Twist}
use Rattle.spatial.specs.declared.wrench.Wrench.{Wrench}
use Rattle.arm.specs.Joint.{with_rotor}
use Rattle.arm.specs.declared.joint.Motion.{Motion}
use Rattle.inertia.specs.Inertia.{inertia_apply, inertia_apply_joint, subspace_of}
use Rattle.articulated.specs.declared.second.Term.{Term}

-- U = I S, D = S · U and the rotor, and the joint's own force less S · the bias force
unfoldable pub term_of : Motion → Float → List Float → Wrench → Float → Term
term_of motion rotor inertia force own =
    let subspace = subspace_of motion in
    let u = inertia_apply_joint inertia motion in
    record { u = u; d = with_rotor rotor (motion_force_dot subspace u); bias = own ⊖ motion_force_dot subspace force }

-- 30: D not finite; 31: D finite and ≤ 0; both name the active number
unfoldable pub judged_term : Float → ℕ → Verdict
judged_term d number = cond (finite d) (cond (le d 0·0) (refused 31 (Some number)) fine) (refused 30 (Some number))

unfoldable pub carried_force : List Float → Wrench → Twist → Wrench
carried_force inertia force bias = plus_of force (inertia_apply inertia bias)

-- with the inertia reduced already, and U (bias / D)
unfoldable pub reduced_force : List Float → Wrench → Twist → Term → Wrench
reduced_force reduced force bias t = plus_of (carried_force reduced force bias) (scale_of t.u (t.bias ⊘ t.d))
