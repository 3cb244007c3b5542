use Rattle.std.proofs.Common.{arith}
use Rattle.matrix_columns.specs.Walk.{plan_with}
use Rattle.matrix_columns.proofs.walk.Climbs.{reached-fixed, reached-root, reached-parent, reached-beyond}
use Rattle.matrix_columns.proofs.walk.+walk.Goals as goal

-- a fixed root is reached
pub returns-then-parent-lead-eq0 : goal.returns-then-parent-lead-eq0
returns-then-parent-lead-eq0 t c =
    (omega arith, reached-fixed (plan_with c.args.n c.args.lead c.args.side) c.args.parents.now c.args.kinds.now c.args.axes.now c.args.column c.args.j c.args.ws.now c.wrench-w.ensures c.put_here.ensures c.parent_at-parent.ensures.0 c.args.end.now (omega (arith, c.if-parent-lead-eq0.true)) (omega (arith, c.if-parent-lead-eq0.true)))

-- a floating one
pub returns-then-parent-eq0 : goal.returns-then-parent-eq0
returns-then-parent-eq0 t c =
    (omega arith, reached-root (plan_with c.args.n c.args.lead c.args.side) c.args.parents.now c.args.kinds.now c.args.axes.now c.args.column c.args.j c.args.ws.now c.wrench-w.ensures c.put_here.ensures c.parent_at-parent.ensures.0 c.carried-up.ensures c.if-parent-eq0.true c.to_vector.ensures)

-- the leg ends at the parent
pub returns-then-left-eq0 : goal.returns-then-left-eq0
returns-then-left-eq0 t c =
    (c.parent_at-parent.ensures.1, reached-parent (plan_with c.args.n c.args.lead c.args.side) c.args.parents.now c.args.kinds.now c.args.axes.now c.args.column c.args.j c.args.ws.now c.wrench-w.ensures c.put_here.ensures c.parent_at-parent.ensures.0 c.carried-up.ensures c.requires.0.good.tree c.requires.2 c.if-parent-eq0.false c.to_vector-then-left-eq0.ensures)

-- or goes on there
pub returns : goal.returns
returns t c =
    (omega (arith, c.walk.ensures.0, c.parent_at-parent.ensures.1, c.if-parent-eq0.false), reached-beyond (plan_with c.args.n c.args.lead c.args.side) c.args.parents.now c.args.kinds.now c.args.axes.now c.args.column c.args.j c.args.ws.now c.wrench-w.ensures c.put_here.ensures c.parent_at-parent.ensures.0 c.carried-up.ensures c.requires.0.good.tree c.requires.2 c.if-parent-eq0.false _ _ _ c.walk.ensures.1)
