use Rattle.std.proofs.Common.{◌≡◌, arith}
use Rattle.cholesky.specs.Cholesky.{forward_row}
use Rattle.cholesky.proofs.forward_row.Goals as goal

pub returns : goal.returns
unfolding forward_row
returns c = let e : c.loop-k.k ≡ c.args.i = omega arith in rw (c.loop-k.invariant, e)
