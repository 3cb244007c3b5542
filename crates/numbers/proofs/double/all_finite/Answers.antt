use Rattle.std.proofs.Common.{◌∙◌, rules}
use Rattle.std.proofs.lemmas.Iterator.{YieldsList-from_slice}
use Rattle.std.proofs.lemmas.Iterator.Search.{all_from_yields_List}
use borrow.Author.Tests.{tests}
use Rattle.numbers.specs.Double.{finite}
use Rattle.numbers.proofs.double.Slices.{all_are}
use Rattle.numbers.proofs.double.all_finite.Goals as goal

pub returns : goal.returns
returns c =
    all_from_yields_List finite _ _ _ c.all.ensures.ran (YieldsList-from_slice c.args.v.now cc) (λ x b q k. search (rules, tests))
    ∙ all_are c.args.v.now
