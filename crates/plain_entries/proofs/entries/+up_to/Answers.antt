use Rattle.std.proofs.Common.{sym, ◌∙◌}
use Rattle.plain_entries.proofs.Ups.{along-here, along-ends, along-goes}
use Rattle.plain_entries.proofs.entries.+up_to.Goals as goal

-- joint i is met
pub returns-then-j-i : goal.returns-then-j-i
returns-then-j-i t c =
    rw (c.entry.ensures, c.motion_at.ensures)
    (along-here _ c.args.arm.now.good.tree.below _ _ _ _ c.if-j-i.true)

-- the root comes first
pub returns-then-parent-eq0 : goal.returns-then-parent-eq0
returns-then-parent-eq0 t c =
    along-ends _ c.args.arm.now.good.tree.below _ _ _ _ c.if-j-i.false (sym c.parent_at-parent.ensures.0 ∙ c.if-parent-eq0.true)

-- the walk goes on
pub returns : goal.returns
returns t c =
    rw (c.up_to.ensures, c.wrench_to_parent-up.ensures, c.frame_at.ensures, c.parent_at-parent.ensures.0)
    (along-goes _ c.args.arm.now.good.tree.below _ _ _ _ c.requires.0 c.if-j-i.false (λ z. c.if-parent-eq0.false (c.parent_at-parent.ensures.0 ∙ z)))
