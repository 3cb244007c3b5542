use Rattle.std.proofs.Common.{◌≡◌}
use Rattle.cholesky.specs.Cholesky.{less_of}
use Rattle.cholesky.proofs.less.Given as goal

abbrev pub invariant-loop-k : goal.invariant-loop-k
invariant-loop-k l = l.x ≡ less_of l.l l.i l.j l.k
