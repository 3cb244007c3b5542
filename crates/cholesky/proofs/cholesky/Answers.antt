use Rattle.std.proofs.Common.{◌≡◌, ◌+◌, ◌-◌, ℕ, zero, suc, false, List, arith}
use lib.Ieee.{Float}
use Rattle.cholesky.specs.Cholesky.{cholesky_to}
use Rattle.cholesky.proofs.cholesky.Goals as goal

-- once a column failed, those after it change nothing
stopped : (a l : List Float) (n k : ℕ) → (false, l) ≡ cholesky_to a n → (false, l) ≡ cholesky_to a (k + n)
unfolding cholesky_to
stopped a l n zero e = let z : 0 + n ≡ n = omega arith in rw z e
stopped a l n (suc k) e = let z : suc k + n ≡ suc (k + n) = omega arith in rw (z, ← stopped a l n k e)

pub returns-then-not-column : goal.returns-then-not-column
unfolding cholesky_to
returns-then-not-column c =
    let j = c.loop-j.j in
    let failed : (false, c.column.new.l) ≡ cholesky_to c.args.l.now (suc j) = rw (← c.loop-j.invariant) c.if-not-column.ensures in
    let all : 5 - j + suc j ≡ 6 = omega arith in
    rw all at (stopped c.args.l.now c.column.new.l (suc j) (5 - j) failed)
