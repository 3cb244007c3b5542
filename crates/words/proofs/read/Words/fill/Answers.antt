-- `Words::fill` meets its contract.
use mathlib.Core.Path.{refl}
use Rattle.words.proofs.list.Laws.{fill_more, fill_none, fill_end}
use Rattle.words.proofs.read.Words.fill.Goals as goal

pub loop-k-preserved : goal.loop-k-preserved
loop-k-preserved g c =
    fill_more c.loop-k.invariant c.loop-k-test.true (rw c.in_ok-next_number.was at c.next_number.ensures.0) c.of.ensures

pub returns-in_err-next_number : goal.returns-in_err-next_number
returns-in_err-next_number g c =
    rw c.from_residual.ensures (fill_none c.loop-k.invariant c.loop-k-test.true (rw c.in_err-next_number.was at c.next_number.ensures.0), refl)

pub returns : goal.returns
returns g c = (fill_end c.loop-k.invariant c.loop-k-test.false, tt)
