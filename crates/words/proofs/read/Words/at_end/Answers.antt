-- `Words::at_end` meets its contract.
use mathlib.Core.Path.{ap, ◌∙◌}
use Rattle.std.proofs.lemmas.Iterator.{YieldsList-from_slice}
use Rattle.std.proofs.lemmas.Iterator.Search.{all_from_yields_List}
use Rattle.words.specs.Read.{is_space, no_word}
use Rattle.words.proofs.read.Laws.{spaces-are}
use borrow.Author.Rules.{rules}
use borrow.Author.Tests.{tests}
use Rattle.words.proofs.read.Words.at_end.Goals as goal

pub returns : goal.returns
returns c =
    let s = c.self.inside.rest.now in
    all_from_yields_List is_space _ _ _ c.all.ensures.ran (YieldsList-from_slice s cc) (λ x b q k. search (rules, tests))
    ∙ spaces-are s ∙ ap no_word c.self.view_is
