use Rattle.std.proofs.Common.{◌≡◌, ◌+◌, ◌*◌, length, take}
use Rattle.base_solve.specs.BaseSolve.{scaled_of}
use Rattle.base_solve.proofs.scaled.Given as goal

abbrev pub invariant-loop-i : goal.invariant-loop-i
invariant-loop-i l = (length l.m ≡ 36) × (take (l.i * 6) l.m ≡ take (l.i * 6) (scaled_of l.a l.s))

abbrev pub invariant-loop-j : goal.invariant-loop-j
invariant-loop-j l = (length l.m ≡ 36) × (take (l.i * 6 + l.j) l.m ≡ take (l.i * 6 + l.j) (scaled_of l.a l.s))
