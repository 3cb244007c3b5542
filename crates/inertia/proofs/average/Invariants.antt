use Rattle.std.proofs.Common.{◌≡◌, ◌+◌, ◌*◌, length, take}
use Rattle.inertia.specs.Inertia.{average_of}
use Rattle.inertia.proofs.average.Given as goal

-- the entries of the first i rows stand
abbrev pub invariant-loop-i : goal.invariant-loop-i
invariant-loop-i l = (length l.n ≡ 36) × (take (l.i * 6) l.n ≡ take (l.i * 6) (average_of l.m))

-- and those of the first j columns of the next row
abbrev pub invariant-loop-j : goal.invariant-loop-j
invariant-loop-j l = (length l.n ≡ 36) × (take (l.i * 6 + l.j) l.n ≡ take (l.i * 6 + l.j) (average_of l.m))
