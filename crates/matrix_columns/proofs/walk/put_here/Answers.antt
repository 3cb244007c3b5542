use Rattle.arm.proofs.model.Known.{motion-at-is}
use borrow.Author.Rules.{rules}
use Rattle.matrix_columns.proofs.walk.put_here.Goals as goal

pub put_entry-requires : goal.put_entry-requires
put_entry-requires c =
    let is = motion-at-is c.args.kinds.now c.args.axes.now c.args.j c.motion_at-motion.ensures (c.requires.0.good.known c.args.j c.requires.2) in
    (c.requires.0, search rules, c.requires.2, c.requires.3, is.number)
