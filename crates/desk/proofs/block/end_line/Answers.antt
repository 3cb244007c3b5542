-- Each way out is its case of `end_of`.
use Rattle.std.proofs.Common.{rules}
use Rattle.desk.specs.Block.{end_of}
use Rattle.desk.proofs.block.end_line.Goals as goal

pub returns-then-over : goal.returns-then-over
unfolding end_of
returns-then-over c = (search rules, rw (c.if-over.true, c.error-end.ensures.2))

pub returns : goal.returns
unfolding end_of
returns c = (search rules, rw c.if-over.false c.answer.ensures.2)
