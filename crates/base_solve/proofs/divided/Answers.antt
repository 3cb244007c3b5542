use Rattle.std.proofs.Common.{rules, get_or}
use lib.Ieee.{nan}
use Rattle.numbers.specs.Double.{◌⊘◌}
use Rattle.numbers.proofs.Made.{made}
use Rattle.base_solve.specs.BaseSolve.{divided_of}
use Rattle.base_solve.proofs.divided.Goals as goal

pub returns : goal.returns
unfolding divided_of
returns c = made _ (λ t. get_or c.args.b.now t nan ⊘ get_or c.args.s.now t nan) _ (λ i q y k. search rules) _ _ c.from_fn.ensures.items
