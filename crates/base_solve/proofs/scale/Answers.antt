use Rattle.std.proofs.Common.{rules}
use Rattle.numbers.proofs.Made.{made}
use Rattle.mat6.specs.Mat6.{cell}
use Rattle.square_root.specs.SquareRoot.{root_of}
use Rattle.base_solve.specs.BaseSolve.{root_or, scale_of}
use Rattle.base_solve.proofs.scale.Goals as goal

pub returns : goal.returns
unfolding scale_of
returns c = made _ (λ t. root_or (root_of (cell c.args.a.now t t))) _ (λ i q y k. search rules) _ _ c.from_fn.ensures.items
