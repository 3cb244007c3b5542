use Rattle.std.proofs.Common.{◌≡◌, get_or}
use lib.Ieee.{nan}
use Rattle.numbers.specs.Double.{abs_of}
use Rattle.numbers.specs.Sum.{sum_to}
use Rattle.base_solve.proofs.size.Given as goal

abbrev pub invariant-loop-k : goal.invariant-loop-k
invariant-loop-k l = l.s ≡ sum_to (λ i. abs_of (get_or l.v i nan)) l.k
