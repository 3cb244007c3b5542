use Rattle.std.proofs.Common.{◌≡◌}
use Rattle.measure.specs.Runs.{calls_of}
use Rattle.measure.proofs.runs.run.Given as goal

abbrev pub invariant-loop : goal.invariant-loop
invariant-loop l = l.s ≡ calls_of l.routine l.counter
