use Rattle.std.proofs.Common.{◌+◌, get_or, rules}
use lib.Ieee.{nan}
use Rattle.numbers.proofs.Made.{made}
use Rattle.slots.specs.Slots.{mat6_at}
use Rattle.slots.proofs.mat6_at.Goals as goal

pub returns : goal.returns
unfolding mat6_at
returns c = made _ (λ t. get_or c.args.s.now (c.args.at + t) nan) _ (λ i q y k. search rules) _ _ c.from_fn.ensures.items
