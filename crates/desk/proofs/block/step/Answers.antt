-- A line that ends, and one that goes on, as `line-moved` and `part_moved` have it.
use Rattle.std.proofs.Common.{arith, take}
use Rattle.desk.proofs.block.Laws.{line-moved, part_moved}
use Rattle.desk.proofs.block.step.Goals as goal

pub returns-then-next-block-clause-moved : goal.returns-then-next-block-clause-moved
returns-then-next-block-clause-moved c =
    let s = c.args.s in
    let m = line-moved c.args.block.now s.next c.gather-p.result.next s.model (take s.len c.args.line.now, s.over) _ (take s.wait c.args.out.now) c.gather-p.ensures.3 c.gather-p.ensures.4 c.if-next-block.true c.end_line-r.ensures.1 in
    record { answers = m.0; left = m.1 }

pub returns-clause-moved : goal.returns-clause-moved
returns-clause-moved c =
    let s = c.args.s in
    let m = part_moved c.args.block.now s.next c.gather-p.result.next s.model (take s.len c.args.line.now, s.over) _ (take s.wait c.args.out.now) c.gather-p.ensures.3 c.gather-p.ensures.4 (omega arith) c.if-next-block.false in
    record { answers = m.0; left = m.1 }
