use Rattle.std.proofs.Common.{◌≡◌, ◌+◌, ◌-◌}
use Rattle.cholesky.specs.Cholesky.{below_to}
use Rattle.cholesky.proofs.below.Given as goal

abbrev pub invariant-loop-i : goal.invariant-loop-i
invariant-loop-i l = l.l ≡ below_to l.initial.l l.j l.r (l.i - (l.j + 1))
