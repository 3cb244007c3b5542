use Rattle.std.proofs.Common.{◌*◌, get_or, arith, rules}
use lib.Ieee.{nan}
use Rattle.numbers.specs.Double.{◌⊘◌}
use Rattle.numbers.proofs.Rows.{next, full}
use Rattle.base_solve.specs.BaseSolve.{scaled_of}
use Rattle.base_solve.proofs.scaled.Goals as goal

pub loop-j-preserved : goal.loop-j-preserved
unfolding scaled_of
loop-j-preserved c =
    let b = c.args in
    let i = c.loop-j.invariant in
    (search rules, next (λ t r k. get_or b.a.now t nan ⊘ get_or b.s.now r nan ⊘ get_or b.s.now k nan) c.loop-j.m c.loop-i.i c.loop-j.j i.0 c.loop-i-test.true c.loop-j-test.true i.1)

pub returns : goal.returns
unfolding scaled_of
returns c =
    let b = c.args in
    let i = c.loop-i.invariant in
    full (λ t r k. get_or b.a.now t nan ⊘ get_or b.s.now r nan ⊘ get_or b.s.now k nan) c.loop-i.m (c.loop-i.i * 6) i.0 (omega arith) i.1
