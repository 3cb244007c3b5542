use mathlib.Core.Path.{refl}
use native.Mathlib.Omega.{arith}
use Rattle.spatial.specs.Wrench.{of_vector}
use Rattle.matrix_columns.proofs.walk.Climbs.{reached-none, reached-next}
use borrow.Author.Rules.{rules}
use Rattle.matrix_columns.proofs.column.walked.Goals as goal

pub loop-link-init : goal.loop-link-init
loop-link-init c = (refl, omega arith, reached-none c.args.fitted.now.plan c.args.fitted.now.model.now.parents c.args.fitted.now.model.now.kinds c.args.fitted.now.model.now.axes c.args.column c.args.j (of_vector c.to_vector-end.result, c.args.ws.now) refl (rw c.to_vector-end.ensures refl))

pub loop-link-preserved : goal.loop-link-preserved
loop-link-preserved c = (search rules, omega (arith, c.leg-link.ensures.0, c.loop-link.invariant.1), reached-next c.args.fitted.now.plan c.args.fitted.now.model.now.parents c.args.fitted.now.model.now.kinds c.args.fitted.now.model.now.axes c.args.column c.args.j (of_vector c.to_vector-end.result, c.args.ws.now) _ _ _ c.loop-link-test.true c.loop-link.invariant.2 c.from_vector-v.ensures c.leg-link.ensures.1)

pub returns : goal.returns
returns c = let g = rw c.to_vector-end.ensures at c.loop-link.invariant.2 in let z = c.loop-link-test.false in (g.written z, λ l. rw (c.from_vector.ensures, g.told z l))
