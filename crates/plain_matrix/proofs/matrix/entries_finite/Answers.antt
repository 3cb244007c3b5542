use mathlib.Core.Path.{refl, ◌∙◌}
use native.Mathlib.Omega.{arith}
use borrow.Author.Rules.{rules}
use borrow.Author.Tests.{tests}
use Rattle.std.proofs.lemmas.Iterator.{YieldsList-from_range}
use Rattle.std.proofs.lemmas.Iterator.Search.{all_from_yields_List}
use Rattle.numbers.specs.Double.{finite}
use Rattle.plain_entries.specs.Arm.{arm_of}
use Rattle.plain_matrix.specs.PlainMatrix.{plain_number, plain_entries}
use Rattle.plain_matrix.proofs.Listed.{all_listed}
use Rattle.plain_matrix.proofs.matrix.entries_finite.Goals as goal

pub returns : goal.returns
unfolding plain_entries
returns c =
    let a = c.args.arm.now in
    let number = plain_number (arm_of a.model.now a.q.now) c.args.p c.args.r a.model.now.kinds in
    all_from_yields_List (λ k. finite (number k)) _ _ _ c.all.ensures.ran (YieldsList-from_range 0 _ _ refl (omega arith)) (λ x b q k. search (rules, tests))
    ∙ all_listed _ _
