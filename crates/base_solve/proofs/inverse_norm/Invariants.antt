use Rattle.std.proofs.Common.{◌≡◌, Some}
use Rattle.base_solve.specs.BaseSolve.{inverse_to}
use Rattle.base_solve.proofs.inverse_norm.Given as goal

abbrev pub invariant-loop-j : goal.invariant-loop-j
invariant-loop-j l = Some l.top ≡ inverse_to l.l l.j
