-- The turns make a run.
use Rattle.std.proofs.Common.{List, ℕ}
use Rattle.desk.specs.Turns.{Within, Run}
use Rattle.desk.proofs.main.Given as goal

abbrev pub invariant-turns : goal.invariant-turns
invariant-turns l = (Within l.k) × (input : List ℕ) × (output : List ℕ) × Run input output l.k l.block l.line
