-- The root: what is set before the passes, and its own visit between the second and the third (`forward_dynamics.rs`). Definitions only.
use Rattle.std.specs.Prelude.{cond, List, ℕ, eqb, Float, Result, Ok, Err}
use Rattle.numbers.specs.declared.quaternion.Quaternion.{Quaternion}
use Rattle.refusals.specs.Refusals.{Verdict, fine}
use Rattle.refusals.specs.declared.Refusal.{Refusal}
use Rattle.spatial.specs.declared.twist.Twist.{Twist}
use Rattle.spatial.specs.declared.wrench.Wrench.{Wrench}
use Rattle.slots.specs.Slots.{wrench_at, mat6_at, put_twist, put_wrench, put_mat6, zero_to}
use Rattle.arm.specs.Model.{link_of}
use Rattle.articulated.specs.First.{body_inertia, bias_force}
use Rattle.articulated.specs.Root.{fixed_acceleration, base_of}
use Rattle.articulated.specs.declared.root.Base.{Base}
use Rattle.forward_slots.specs.Layout.{root_inertia_place, root_force_place, root_acceleration_place, results_place}
use Rattle.forward_slots.specs.Loads.{load_of, loads_to}
use Rattle.calls.specs.declared.plan.Plan.{Plan}

-- the root's own inertia and bias force; `velocity` is the root's
unfoldable pub put_root : ℕ → Twist → List Float → Wrench → List Float → List Float
put_root n velocity links load ws =
    let inertia = body_inertia (link_of links 0) in
    put_wrench (put_mat6 ws (root_inertia_place n) inertia) (root_force_place n) (bias_force inertia velocity load)

-- what the Rust sets before its loops comes with the first visit: the link loads, the root's inertia and its bias force
unfoldable pub begun_of : ℕ → Twist → List Float → List ℕ → List Float → ℕ → List Float → List Float
begun_of n velocity links loaded loads at ws = cond (eqb at 0) (put_root n velocity links (load_of loaded loads 0) (loads_to loaded loads n ws)) ws

unfoldable pub base_at : ℕ → Quaternion → Twist → List Float → List Float → Result Base Refusal
base_at n rotation velocity forces ws = base_of rotation velocity (mat6_at ws (root_inertia_place n)) (wrench_at ws (root_force_place n)) (wrench_at forces 0)

-- the base's six wait with the results, and the root's acceleration is kept
unfoldable pub kept_base : ℕ → Result Base Refusal → List Float → Verdict × List Float
kept_base n (Ok b) ws = (fine, put_twist (put_twist ws (results_place n) b.world) (root_acceleration_place n) b.acceleration)
kept_base n (Err r) ws = (Err r, ws)

unfoldable pub floating_root : ℕ → Quaternion → Twist → List Float → List Float → Verdict × List Float
floating_root n rotation velocity forces ws = kept_base n (base_at n rotation velocity forces ws) ws

-- the results are +0.0 first
unfoldable pub root_visit : Plan → Quaternion → Twist → List Float → List Float → Verdict × List Float
root_visit p rotation velocity forces ws =
    let filled = zero_to ws (results_place p.n) p.side in
    cond (eqb p.lead 0) (fine, put_twist filled (root_acceleration_place p.n) (fixed_acceleration rotation)) (floating_root p.n rotation velocity forces filled)
