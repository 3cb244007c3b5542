use Rattle.std.proofs.Common.{◌≡◌}
use Rattle.base_solve.specs.BaseSolve.{norm_to}
use Rattle.base_solve.proofs.norm.Given as goal

abbrev pub invariant-loop-k : goal.invariant-loop-k
invariant-loop-k l = l.x ≡ norm_to l.a l.k
