use Rattle.std.proofs.Common.{◌≡◌, arith}
use Rattle.base_solve.specs.BaseSolve.{column_sum}
use Rattle.base_solve.proofs.column_sum.Goals as goal

pub returns : goal.returns
unfolding column_sum
returns c = let e : c.loop-k.k ≡ 6 = omega arith in rw (c.loop-k.invariant, e)
