use Rattle.std.proofs.Common.{◌≡◌, get_or}
use lib.Ieee.{nan}
use Rattle.numbers.specs.Double.{◌⊗◌}
use Rattle.numbers.specs.Sum.{less_to}
use Rattle.mat6.specs.Mat6.{cell}
use Rattle.cholesky.proofs.forward_row.Given as goal

abbrev pub invariant-loop-k : goal.invariant-loop-k
invariant-loop-k l = l.x ≡ less_to (get_or l.b l.i nan) (λ t. cell l.l l.i t ⊗ get_or l.b t nan) l.k
