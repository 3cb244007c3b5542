use Rattle.matrix_columns.proofs.column.Columns.{column-fixed, column-floats}
use Rattle.matrix_columns.proofs.column.column_visit.Goals as goal

pub returns-else-p-ne0 : goal.returns-else-p-ne0
returns-else-p-ne0 c =
    column-fixed c.args.fitted.now.plan c.args.fitted.now.rotation c.args.fitted.now.model.now.parents c.args.fitted.now.model.now.kinds c.args.fitted.now.model.now.axes c.args.fitted.now.model.now.rotors c.args.j c.args.ws.now c.row_of-column.ensures.0 c.motion_at-motion.ensures c.composite_at-c.ensures c.force-force.ensures c.walked-w.ensures.0 c.add_rotor.ensures c.if-p-ne0.false

pub returns-then-p-ne0 : goal.returns-then-p-ne0
returns-then-p-ne0 c =
    column-floats c.args.fitted.now.plan c.args.fitted.now.rotation c.args.fitted.now.model.now.parents c.args.fitted.now.model.now.kinds c.args.fitted.now.model.now.axes c.args.fitted.now.model.now.rotors c.args.j c.args.ws.now c.row_of-column.ensures.0 c.motion_at-motion.ensures c.composite_at-c.ensures c.force-force.ensures c.walked-w.ensures.0 c.add_rotor.ensures c.if-p-ne0.true (c.walked-w.ensures.1 c.if-p-ne0.true) c.base_rows.ensures
