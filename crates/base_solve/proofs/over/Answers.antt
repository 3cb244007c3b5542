use Rattle.std.proofs.Common.{rules, get_or}
use lib.Ieee.{nan}
use Rattle.numbers.specs.Double.{◌⊘◌}
use Rattle.numbers.proofs.Made.{made}
use Rattle.base_solve.specs.BaseSolve.{over_of}
use Rattle.base_solve.proofs.over.Goals as goal

pub returns : goal.returns
unfolding over_of
returns c = made _ (λ t. get_or c.args.b.now t nan ⊘ c.args.g) _ (λ i q y k. search rules) _ _ c.from_fn.ensures.items
