use mathlib.Core.Path.{◌≡◌}
use Rattle.forward_visits.specs.Inputs.{inputs_of}
use Rattle.dynamics.specs.Calculation.{work_of}
use Rattle.calculations.specs.Make.{in_portions}
use Rattle.calculations.proofs.make.Laws.{after}
use Rattle.calculations.proofs.make.portions.Given as goal

abbrev pub invariant-loop-k : goal.invariant-loop-k
invariant-loop-k l =
    after (work_of l.c l.model (inputs_of l.inputs)) l.budgets l.k l.counts (l.answer, l.ws, l.out)
    ≡ in_portions (work_of l.c l.model (inputs_of l.inputs)) l.budgets (l.initial.answer, l.initial.ws, l.initial.out)
