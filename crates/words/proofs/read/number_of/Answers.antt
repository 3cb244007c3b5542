-- `read::number_of` meets its contract. The value so far, with the digits left, reads as the whole word, and it is below 16^i, so that nothing wraps.
use mathlib.Core.Path.{sym, ◌∙◌}
use Rattle.words.proofs.read.Laws.{digit_small, read-on, read_off, read-end, grown, small}
use borrow.Author.Rules.{rules}
use Rattle.words.proofs.read.number_of.Goals as goal

pub overflow_mul-v : goal.overflow_mul-v
overflow_mul-v c = let e = small _ _ _ c.loop-b.invariant.1 c.loop-b-test.true c.loop-b.invariant.0 in search rules

pub returns-in_err-v : goal.returns-in_err-v
returns-in_err-v c =
    c.from_residual.ensures ∙ read_off _ _ _ c.loop-b-test.true (sym c.digit.ensures ∙ c.in_err-v.was) ∙ c.loop-b.invariant.2

pub overflow_add-v : goal.overflow_add-v
overflow_add-v c =
    let e = small _ _ _ c.loop-b.invariant.1 c.loop-b-test.true c.loop-b.invariant.0 in
    let d = digit_small _ _ (sym c.digit.ensures ∙ c.in_ok-v.was) in
    search rules

pub loop-b-preserved : goal.loop-b-preserved
loop-b-preserved c =
    let d = sym c.digit.ensures ∙ c.in_ok-v.was in
    (search rules, grown _ _ _ _ d c.loop-b.invariant.1, read-on _ _ _ c.loop-b-test.true _ d ∙ c.loop-b.invariant.2)

pub returns : goal.returns
returns c = read-end _ _ _ c.loop-b-test.false ∙ c.loop-b.invariant.2
