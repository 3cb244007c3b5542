use Rattle.std.proofs.Common.{rules}
use Rattle.numbers.proofs.Made.{made}
use Rattle.mat6.specs.Mat6.{row_of, apply_of}
use Rattle.mat6.proofs.apply.Goals as goal

pub returns : goal.returns
unfolding apply_of
returns c = made _ (row_of c.args.m.now c.args.v.now) _ (λ i q y k. search rules) _ _ c.from_fn.ensures.items
