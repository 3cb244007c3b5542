use Rattle.std.proofs.Common.{sym, ◌∙◌}
use Rattle.plain_entries.proofs.Depths.{gathered-first, gathered-not, gathered-more}
use Rattle.plain_entries.proofs.gather.+gathered.Goals as goal

-- no joint is left
pub returns-then-i-eq0 : goal.returns-then-i-eq0
returns-then-i-eq0 t c = c.link_at.ensures ∙ gathered-first _ _ _ c.if-i-eq0.true

-- the higher ones first; this one stands elsewhere
pub returns-then-parent_at-l : goal.returns-then-parent_at-l
returns-then-parent_at-l t c =
    c.gathered-c.ensures
    ∙ gathered-not _ _ _ c.if-i-eq0.false (λ z. c.if-parent_at-l.true (c.parent_at.ensures.0 ∙ z))

-- or here
pub returns : goal.returns
returns t c =
    rw (c.joined.ensures, c.to_parent-moved.ensures, c.frame_at.ensures)
    (gathered-more _ _ _ c.args.arm.now.good.tree.below c.if-i-eq0.false (sym c.parent_at.ensures.0 ∙ c.if-parent_at-l.false) c.gathered-c.ensures c.gathered-whole.ensures)
