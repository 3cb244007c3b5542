-- `line::gather` meets its contract.
use mathlib.Core.Bool.{true, false}
use Rattle.words.proofs.line.Laws.{gathered}
use Rattle.words.proofs.line.gather.Goals as goal

pub returns-then-over : goal.returns-then-over
returns-then-over c =
    let a = c.args in
    rw c.if-over.true (gathered a.block.now a.line.now _ _ true a.i a.len _ _ c.requires.0 c.requires.1 c.requires.2 c.before_newline-count.ensures c.min-kept.ensures c.copy_from_slice.ensures.after)

pub returns-else-over : goal.returns-else-over
returns-else-over c =
    let a = c.args in
    rw c.if-over.false (gathered a.block.now a.line.now _ _ false a.i a.len _ _ c.requires.0 c.requires.1 c.requires.2 c.before_newline-count.ensures c.min-kept.ensures c.copy_from_slice.ensures.after)
