use Rattle.std.proofs.Common.{◌≡◌}
use Rattle.cholesky.specs.Cholesky.{forward_to}
use Rattle.cholesky.proofs.forward.Given as goal

abbrev pub invariant-loop-i : goal.invariant-loop-i
invariant-loop-i l = l.c ≡ forward_to l.l l.initial.c l.i
