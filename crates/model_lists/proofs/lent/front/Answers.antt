-- `lent::front` meets its contract.
use Rattle.std.proofs.Common.{rules, get_or, ◌∙◌}
use Rattle.std.specs.Float.{nan}
use Rattle.numbers.proofs.Made.{made}
use Rattle.model_lists.proofs.lent.Lists.{front}
use Rattle.model_lists.proofs.lent.front.Goals as goal

pub returns : goal.returns
returns g c = made _ (λ k. get_or c.args.s.now k nan) _ (λ i q y k. search rules) _ _ c.from_fn.ensures.items ∙ front c.args.s.now g.row.N c.requires
