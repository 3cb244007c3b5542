use mathlib.Core.Bool.{true}
use mathlib.Core.Path.{◌≡◌}
use Prim.Native.Nat.{ℕ, ◌-◌}
use lib.ListN.{length}
use Rattle.calls.specs.Plan.{Within}
use Rattle.calls.specs.Position.{State, step_by, iterate}
use Rattle.composites.specs.Plan.{matrix_place}
use Rattle.matrix_visits.specs.Kernel.{visit_of}
use Rattle.matrix_visits.specs.declared.task.Task.{Task}
use Rattle.mass_matrix.proofs.run.run.Given as goal

-- so many visits, as the definition has them
abbrev pub visited : Task → ℕ → State → State
visited t = iterate (step_by (visit_of t.fitted.plan t.fitted.rotation t.fitted.model.now t.q.now) (matrix_place t.fitted.plan.n))

abbrev pub invariant-loop : goal.invariant-loop
invariant-loop l =
    (length l.ws ≡ length l.initial.ws) × (length l.out ≡ length l.initial.out) × Within true l.task.fitted.plan l.s.position
    × (visited l.task (l.budget - l.counter) (l.s, l.ws, l.out) ≡ visited l.task l.budget (l.initial.s, l.initial.ws, l.initial.out))
