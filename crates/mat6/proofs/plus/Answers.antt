use Rattle.std.proofs.Common.{get_or, rules}
use lib.Ieee.{nan}
use Rattle.numbers.specs.Double.{◌⊕◌}
use Rattle.numbers.proofs.Made.{made}
use Rattle.mat6.specs.Mat6.{plus_of}
use Rattle.mat6.proofs.plus.Goals as goal

pub returns : goal.returns
unfolding plus_of
returns c = made _ (λ t. get_or c.args.a.now t nan ⊕ get_or c.args.b.now t nan) _ (λ i q y k. search rules) _ _ c.from_fn.ensures.items
