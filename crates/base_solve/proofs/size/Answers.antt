use Rattle.std.proofs.Common.{◌≡◌, arith}
use Rattle.base_solve.specs.BaseSolve.{size_of}
use Rattle.base_solve.proofs.size.Goals as goal

pub returns : goal.returns
unfolding size_of
returns c = let e : c.loop-k.k ≡ 6 = omega arith in rw (c.loop-k.invariant, e)
