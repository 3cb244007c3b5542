use Rattle.std.proofs.Common.{◌≡◌, ◌-◌}
use Rattle.cholesky.specs.Cholesky.{back_to}
use Rattle.cholesky.proofs.back.Given as goal

abbrev pub invariant-loop-i : goal.invariant-loop-i
invariant-loop-i l = l.c ≡ back_to l.l l.initial.c (6 - l.i)
