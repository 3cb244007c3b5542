use Rattle.std.proofs.Common.{◌≡◌, true}
use Rattle.cholesky.specs.Cholesky.{cholesky_to}
use Rattle.cholesky.proofs.cholesky.Given as goal

abbrev pub invariant-loop-j : goal.invariant-loop-j
invariant-loop-j l = (true, l.l) ≡ cholesky_to l.initial.l l.j
