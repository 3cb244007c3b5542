use Rattle.std.proofs.Common.{sym, ◌∙◌}
use Rattle.plain_entries.proofs.Ups.{root_ends, root-goes}
use Rattle.plain_entries.proofs.entries.+to_root.Goals as goal

-- carried to the parent's
pub returns-then-parent-eq0 : goal.returns-then-parent-eq0
returns-then-parent-eq0 t c =
    rw (c.wrench_to_parent-up.ensures, c.frame_at.ensures)
    (root_ends _ c.args.arm.now.good.tree.below _ _ (sym c.parent_at-parent.ensures.0 ∙ c.if-parent-eq0.true))

-- and on
pub returns : goal.returns
returns t c =
    rw (c.to_root.ensures, c.wrench_to_parent-up.ensures, c.frame_at.ensures, c.parent_at-parent.ensures.0)
    (root-goes _ c.args.arm.now.good.tree.below _ _ c.requires (λ z. c.if-parent-eq0.false (c.parent_at-parent.ensures.0 ∙ z)))
