use Rattle.std.proofs.Common.{◌≡◌}
use Rattle.numbers.specs.Double.{abs_of}
use Rattle.numbers.specs.Sum.{sum_to}
use Rattle.mat6.specs.Mat6.{cell}
use Rattle.base_solve.proofs.column_sum.Given as goal

abbrev pub invariant-loop-k : goal.invariant-loop-k
invariant-loop-k l = l.s ≡ sum_to (λ i. abs_of (cell l.a i l.j)) l.k
