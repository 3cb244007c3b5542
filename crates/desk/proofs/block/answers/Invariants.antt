-- Each turn moves on from where the first step led.
use Rattle.std.proofs.Common.{◌-◌, ◌≤◌, ◌<◌, length}
use Rattle.desk.specs.Block.{Moved}
use Rattle.desk.proofs.block.answers.Given as goal

abbrev pub invariant-loop-r : goal.invariant-loop-r
invariant-loop-r l = record {
  on : l.initial.r.next ≤ l.r.next;
  within : l.r.next ≤ length l.block;
  room : (l.r.len < 65536) × (l.r.wait ≤ 262144);
  moved : Moved l.block l.initial.r l.initial.line l.initial.out l.r l.line l.out;
}

abbrev pub decreases-loop-r : goal.decreases-loop-r
decreases-loop-r l = length l.block - l.r.next
