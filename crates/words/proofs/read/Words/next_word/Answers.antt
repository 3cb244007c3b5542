-- `Words::next_word` meets its contract. The first letter starts the word, and the first space behind it ends it.
use mathlib.Core.Path.{refl}
use mathlib.Core.Bool.{not}
use Rattle.std.proofs.lemmas.Iterator.{YieldsList-from_slice}
use Rattle.std.proofs.lemmas.Iterator.Search.{position_from_yields_List}
use Rattle.words.specs.Read.{is_space}
use Rattle.words.proofs.read.Laws.{no_first, first}
use borrow.Author.Rules.{rules}
use borrow.Author.Tests.{tests}
use Rattle.words.proofs.read.Words.next_word.Goals as goal

pub returns-in_err-start : goal.returns-in_err-start
returns-in_err-start c =
    let s = c.self.inside.rest.now in
    let p = position_from_yields_List (λ b. not (is_space b)) _ _ _ c.position.ensures.ran (YieldsList-from_slice s cc) (λ x b q k. search (rules, tests)) in
    rw (c.from_residual.ensures, ← c.self.view_is) (no_first s p c.in_err-start.was, refl)

pub returns : goal.returns
returns c =
    let s = c.self.inside.rest.now in
    let p = position_from_yields_List (λ b. not (is_space b)) _ _ _ c.position.ensures.ran (YieldsList-from_slice s cc) (λ x b q k. search (rules, tests)) in
    let q = position_from_yields_List is_space _ _ _ c.position-2.ensures.ran (YieldsList-from_slice c.split_at.result.1.now cc) (λ x b q k. search (rules, tests)) in
    rw (← c.self.view_is, c.split_at-2.ensures.front, c.split_at-2.ensures.back) (first s p c.in_ok-start.was c.split_at.ensures.back q c.unwrap_or-stop.ensures, tt)
