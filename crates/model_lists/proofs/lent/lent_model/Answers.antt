-- `lent::lent_model` meets its contract. What the steps give makes a lent model.
use mathlib.Core.Path.{sym, ◌∙◌}
use Rattle.model_lists.proofs.lent.Lists.{not-full, no-parents, no-kinds, lent}
use Rattle.model_lists.proofs.lent.lent_model.Goals as goal

pub returns-then-not-full : goal.returns-then-not-full
returns-then-not-full c = not-full _ _ _ _ _ _ _ c.requires (sym c.full.ensures ∙ c.if-not-full.true)

pub returns-in_err-narrow : goal.returns-in_err-narrow
returns-in_err-narrow c = c.from_residual.ensures ∙ no-parents _ _ _ _ _ _ _ c.requires (sym c.full.ensures ∙ c.if-not-full.false) (sym c.in_err-narrow.ensures)

pub returns-in_err-narrow-2 : goal.returns-in_err-narrow-2
returns-in_err-narrow-2 c = c.from_residual-in_err-narrow-2.ensures ∙ no-kinds _ _ _ _ _ _ _ c.requires (sym c.full.ensures ∙ c.if-not-full.false) (sym c.in_ok-narrow.ensures) (sym c.in_err-narrow-2.ensures)

pub returns : goal.returns
returns c = lent _ _ _ _ _ _ _ c.requires (sym c.full.ensures ∙ c.if-not-full.false) (sym c.in_ok-narrow.ensures) (sym c.in_ok-narrow-2.ensures) c.front.ensures c.front-2.ensures c.front-3.ensures c.front-4.ensures
