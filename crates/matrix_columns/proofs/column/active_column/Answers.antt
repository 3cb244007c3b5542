use mathlib.Core.Path.{sym, ◌∙◌}
use Rattle.arm.proofs.topology.Actives.{found-is}
use Rattle.matrix_columns.proofs.column.active_column.Goals as goal

pub column_visit-requires : goal.column_visit-requires
column_visit-requires c =
    let s = found-is c.args.fitted.now.model.now.kinds c.args.fitted.now.plan.n c.args.k _ (sym c.active_joint.ensures ∙ c.in-Some.is) in
    (c.requires.0, s.joint, s.active)
