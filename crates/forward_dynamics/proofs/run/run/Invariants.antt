use Rattle.std.proofs.Common.{◌≡◌, ℕ, ◌-◌, false}
use Rattle.calls.specs.Plan.{Within}
use Rattle.calls.specs.Position.{State, step_by, iterate}
use Rattle.forward_slots.specs.Layout.{results_place}
use Rattle.forward_visits.specs.Kernel.{visits_for}
use Rattle.forward_visits.specs.declared.task.Task.{Task}
use Rattle.forward_dynamics.proofs.run.run.Given as goal

-- so many visits, as the definition has them
abbrev pub visited : Task → ℕ → State → State
visited t k s = iterate (step_by (visits_for t) (results_place t.arm.plan.n)) k s

abbrev pub invariant-loop : goal.invariant-loop
invariant-loop l = Within false l.task.arm.plan l.s.position × (visited l.task (l.budget - l.counter) (l.s, l.ws, l.out) ≡ visited l.task l.budget (l.initial.s, l.initial.ws, l.initial.out))
