use Rattle.std.proofs.Common.{◌*◌, arith, rules}
use Rattle.numbers.specs.Double.{◌⊕◌, ◌⊗◌, 0·5}
use Rattle.numbers.proofs.Rows.{next, full}
use Rattle.mat6.specs.Mat6.{cell}
use Rattle.inertia.specs.Inertia.{average_of}
use Rattle.inertia.proofs.average.Goals as goal

pub loop-j-preserved : goal.loop-j-preserved
unfolding average_of
loop-j-preserved c =
    let m = c.args.m.now in
    let f = c.loop-j in
    (search rules, next (λ t i j. cell m i j ⊗ 0·5 ⊕ cell m j i ⊗ 0·5) f.n c.loop-i.i f.j f.invariant.0 (search rules) (search rules) f.invariant.1)

pub returns : goal.returns
unfolding average_of
returns c =
    let m = c.args.m.now in
    let f = c.loop-i in
    full (λ t i j. cell m i j ⊗ 0·5 ⊕ cell m j i ⊗ 0·5) f.n (f.i * 6) f.invariant.0 (omega arith) f.invariant.1
