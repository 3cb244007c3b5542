-- `line::before_newline` meets its contract.
use mathlib.Core.Path.{◌≡◌, ap, ◌∙◌}
use lib.Dec.{eqb}
use lib.ListN.{length}
use Rattle.std.specs.Option.{unwrap_or}
use Rattle.std.proofs.lemmas.Iterator.{YieldsList-from_slice}
use Rattle.std.proofs.lemmas.Iterator.Search.{position_from_yields_List}
use Rattle.std.proofs.lemmas.List.Sums.{prefix_len-le-length}
use Rattle.words.specs.Line.{in_line, before_of}
use Rattle.words.proofs.read.Laws.{or_length}
use borrow.Author.Rules.{rules}
use borrow.Author.Tests.{tests}
use Rattle.words.proofs.line.before_newline.Goals as goal

pub returns : goal.returns
returns c =
    let s = c.args.bytes.now in
    let p = position_from_yields_List (λ b. eqb b 10) _ _ _ c.position.ensures.ran (YieldsList-from_slice s cc) (λ x b q k. search (rules, tests)) in
    let e : c.unwrap_or.result ≡ before_of s = c.unwrap_or.ensures ∙ ap (λ q. unwrap_or q (length s)) p ∙ or_length (λ b. eqb b 10) s in
    (rw e (prefix_len-le-length in_line s), e)
