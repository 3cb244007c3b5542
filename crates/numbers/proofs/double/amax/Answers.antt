use Rattle.std.proofs.Common.{◌≡◌, ◌∙◌, arith}
use Rattle.std.proofs.lemmas.Grind.{common_steps}
use Rattle.std.specs.List.{fold}
use Rattle.numbers.specs.Double.{0·0}
use Rattle.numbers.proofs.double.Slices.{larger, largest_is}
use Rattle.numbers.proofs.double.amax.Goals as goal

pub returns : goal.returns
returns c = let e : c.fold.result ≡ fold larger 0·0 c.args.v.now = grind (arith, common_steps) in e ∙ largest_is c.args.v.now
