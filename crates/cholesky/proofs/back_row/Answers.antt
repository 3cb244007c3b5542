use Rattle.std.proofs.Common.{◌≡◌, ◌+◌, ◌-◌, suc, arith}
use Rattle.numbers.specs.Sum.{less_to}
use Rattle.cholesky.specs.Cholesky.{back_row}
use Rattle.cholesky.proofs.back_row.Goals as goal

pub loop-k-preserved : goal.loop-k-preserved
unfolding less_to
loop-k-preserved c =
    let k = c.loop-k.k in
    let i = c.args.i in
    let next : k + 1 - (i + 1) ≡ suc (k - (i + 1)) = omega arith in
    let here : i + 1 + (k - (i + 1)) ≡ k = omega arith in
    rw (next, here, c.loop-k.invariant)

pub returns : goal.returns
unfolding back_row
returns c = let e : c.loop-k.k - (c.args.i + 1) ≡ 5 - c.args.i = omega arith in rw (c.loop-k.invariant, e)
