use mathlib.Core.Path.{◌≡◌}
use Prim.Native.Nat.{◌-◌, ◌≤◌}
use lib.ListN.{length}
use Rattle.forward_visits.specs.Inputs.{inputs_of}
use Rattle.calls.specs.Position.{iterate}
use Rattle.dynamics.specs.Calculation.{work_of}
use Rattle.calculations.specs.Make.{again_of, made_by}
use Rattle.calculations.proofs.make.times.Given as goal

abbrev pub invariant-loop : goal.invariant-loop
invariant-loop l =
    let again = again_of (work_of l.c l.model (inputs_of l.inputs)) l.budgets in
    record {
      within : l.last.counts ≤ length l.counts;
      made : iterate again (l.count - l.counter) (made_by l.last l.counts l.ws l.out) ≡ iterate again (l.count - 1) (made_by l.initial.last l.initial.counts l.initial.ws l.initial.out);
    }
