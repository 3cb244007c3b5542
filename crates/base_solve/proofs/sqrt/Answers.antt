use Rattle.std.proofs.Common.{◌≡◌, refl, ap, ◌∙◌, Option, Some, None}
use Rattle.std.specs.Option.{unwrap_or}
use lib.Ieee.{Float, of_bits, binary64}
use Rattle.base_solve.specs.BaseSolve.{root_or}
use Rattle.base_solve.proofs.sqrt.Goals as goal

-- the code's NaN is the definition's
same : (r : Option Float) → unwrap_or r (of_bits binary64 9221120237041090560) ≡ root_or r
unfolding root_or of_bits
same None = refl
same (Some x) = refl

pub returns : goal.returns
returns c = c.unwrap_or.ensures ∙ same c.sqrt.result ∙ ap root_or c.sqrt.ensures.0
