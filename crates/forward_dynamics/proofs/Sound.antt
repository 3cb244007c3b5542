-- Forward dynamics is sound. Assumes nothing.
use mathlib.Core.Bool.{false}
use mathlib.Core.List.{List}
use mathlib.Core.Path.{◌≡◌}
use Prim.Native.Nat.{ℕ, ◌+◌, ◌-◌, ◌<◌}
use native.Mathlib.Omega.{arith}
use lib.Ieee.{Float}
use Rattle.numbers.specs.declared.quaternion.Quaternion.{Quaternion}
use Rattle.spatial.specs.declared.twist.Twist.{Twist}
use Rattle.arm.specs.declared.model.Model.{Model}
use Rattle.articulated.specs.Root.{root_velocity}
use Rattle.calls.specs.Plan.{plan_by, plan_of, Within}
use Rattle.calls.specs.Position.{visits_of, advanced_by}
use Rattle.calls.specs.Portions.{Sound}
use Rattle.calls.specs.declared.plan.Plan.{Plan}
use Rattle.calls.specs.declared.position.Outcome.{Outcome}
use Rattle.calls.specs.declared.position.Position.{Position}
use Rattle.calls.specs.declared.position.Progress.{Progress}
use Rattle.calls.proofs.Steps.{still-within}
use Rattle.forward_visits.specs.Kernel.{visit_of}
use Rattle.forward_visits.proofs.Kept.{length-visit, last-ends, others-wait}
use Rattle.forward_dynamics.specs.ForwardDynamics.{floats, rotation_of, base_velocity, forward_dynamics}
use Rattle.forward_visits.specs.Inputs.{Inputs}
use Rattle.forward_dynamics.specs.declared.forward_dynamics.Mode.{Mode}

-- after a visit that leaves it open, a position has a visit left
pub within-after : (p : Plan) (rotation : Quaternion) (velocity : Twist) (m : Model) (q qd forces : List Float) (loaded : List ℕ) (loads : List Float) (s : Position) (ws : List Float)
    {o : Outcome} {ws' : List Float} {t : Progress}
    → s.visits < visits_of false p.n (p.side - p.lead) → (o, ws') ≡ visit_of p rotation velocity m q qd forces loaded loads s.visits ws → t ≡ advanced_by s o → Within false p t.position
unfolding visits_of
within-after p rotation velocity m q qd forces loaded loads =
    still-within (visit_of p rotation velocity m q qd forces loaded loads) (p.n + p.n + p.n + 1) (λ k ws e. last-ends p rotation velocity m q qd forces loaded loads k ws (omega arith))

pub sound : (mode : Mode) (m : Model) (i : Inputs) → Sound (forward_dynamics mode m i)
unfolding forward_dynamics visits_of plan_by
sound mode m i =
    let p = plan_of (floats mode) m.n m.kinds in
    let rotation = rotation_of mode in
    let velocity = root_velocity rotation (base_velocity mode) in
    record {
      kept = length-visit p rotation velocity m i.q i.qd i.forces i.loaded i.loads;
      ends = λ k ws e. last-ends p rotation velocity m i.q i.qd i.forces i.loaded i.loads k ws (omega arith);
      waits = λ k ws h. others-wait p rotation velocity m i.q i.qd i.forces i.loaded i.loads k ws (λ e. omega arith);
    }
