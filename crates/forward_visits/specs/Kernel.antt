-- The visits of forward dynamics, on any workspace numbers (document 01, "Visits"). Definitions only.
use Rattle.std.specs.Prelude.{Bool, cond, List, ℕ, ◌+◌, ◌-◌, eqb, ltb, Float, Ok, Err}
use Rattle.numbers.specs.declared.quaternion.Quaternion.{Quaternion}
use Rattle.refusals.specs.Refusals.{Verdict, fine}
use Rattle.spatial.specs.declared.twist.Twist.{Twist}
use Rattle.arm.specs.declared.model.Model.{Model}
use Rattle.calls.specs.declared.position.Outcome.{Outcome}
use Rattle.calls.specs.declared.position.Outcome.TheVariants.{Open, Accepted, Refused}
use Rattle.calls.specs.declared.plan.Plan.{Plan}
use Rattle.forward_passes.specs.First.{first_visit}
use Rattle.forward_passes.specs.Second.{second_visit}
use Rattle.forward_passes.specs.Root.{begun_of, root_visit}
use Rattle.forward_passes.specs.Third.{third_visit}
use Rattle.forward_visits.specs.Inputs.{inputs_of}
use Rattle.forward_visits.specs.declared.task.Task.{Task}

-- the last visit accepts
unfoldable pub outcome_of : Verdict → Bool → Outcome
outcome_of (Ok u) last = cond last Accepted Open
outcome_of (Err r) last = Refused r

-- visit `at`, after what the first brings: joints rising, joints falling, the root, joints rising
unfoldable pub pass_visit : Plan → Quaternion → Twist → Model → List Float → List Float → List Float → ℕ → List Float → Verdict × List Float
pass_visit p rotation velocity m q qd forces at ws =
    let n = p.n in
    cond (ltb at n) (fine, first_visit velocity m.parents m.kinds m.origins m.axes m.links q qd at ws)
    (cond (ltb at (n + n)) (second_visit p m.parents m.kinds m.axes m.rotors forces (n + n - 1 - at) ws)
    (cond (eqb at (n + n)) (root_visit p rotation velocity forces ws)
    (third_visit p m.parents m.kinds m.axes (at - (n + n) - 1) ws)))

unfoldable pub visit_of : Plan → Quaternion → Twist → Model → List Float → List Float → List Float → List ℕ → List Float → ℕ → List Float → Outcome × List Float
visit_of p rotation velocity m q qd forces loaded loads at ws =
    let v = pass_visit p rotation velocity m q qd forces at (begun_of p.n velocity m.links loaded loads at ws) in
    (outcome_of v.0 (eqb at (p.n + p.n + p.n)), v.1)

-- ---- what the steps of the code promise each other

-- a task's visits
abbrev pub visits_for : Task → ℕ → List Float → Outcome × List Float
visits_for t = let i = inputs_of t.inputs in visit_of t.arm.plan t.rotation t.velocity t.arm.model.now i.q i.qd i.forces i.loaded i.loads
