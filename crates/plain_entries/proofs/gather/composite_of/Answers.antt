use mathlib.Core.Path.{sym, ◌∙◌}
use Rattle.plain_entries.proofs.Depths.{composite-is}
use Rattle.plain_entries.proofs.gather.composite_of.Goals as goal

pub returns : goal.returns
returns c = c.gathered.ensures ∙ sym (composite-is _ c.args.arm.now.good.tree.below _)
