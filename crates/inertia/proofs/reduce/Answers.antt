use Rattle.std.proofs.Common.{◌*◌, ◌∙◌, List, ap, arith, get_or, rules}
use lib.Ieee.{Float, nan}
use Rattle.numbers.specs.Double.{◌⊖◌, ◌⊗◌, ◌⊘◌}
use Rattle.numbers.proofs.Rows.{next, full}
use Rattle.inertia.specs.Inertia.{reduce_of}
use Rattle.inertia.proofs.reduce.Goals as goal

pub loop-j-preserved : goal.loop-j-preserved
unfolding reduce_of
loop-j-preserved c =
    let a = c.args in
    let v = c.to_vector-v.result in
    let f = c.loop-j in
    (search rules, next (λ t i j. get_or a.m.now t nan ⊖ (get_or v i nan ⊗ get_or v j nan) ⊘ a.d) f.n c.loop-i.i f.j f.invariant.0 (search rules) (search rules) f.invariant.1)

pub returns : goal.returns
unfolding reduce_of
returns c =
    let a = c.args in
    let v = c.to_vector-v.result in
    let f = c.loop-i in
    full (λ t i j. get_or a.m.now t nan ⊖ (get_or v i nan ⊗ get_or v j nan) ⊘ a.d) f.n (f.i * 6) f.invariant.0 (omega arith) f.invariant.1
    ∙ ap (λ (w : List Float). reduce_of a.m.now w a.d) c.to_vector-v.ensures
