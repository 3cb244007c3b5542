use Prim.Native.Nat.{zero-le}
use native.Mathlib.Omega.{arith}
use Rattle.numbers.proofs.Filled.{none, more, full}
use Rattle.standing.specs.Standing.{marks_of}
use Rattle.standing.proofs.marks.put_marks.Invariants.{}
use Rattle.standing.proofs.marks.put_marks.Goals as goal

pub loop-t-init : goal.loop-t-init
loop-t-init c = none _ _ _ c.requires.1 zero-le

pub loop-t-preserved : goal.loop-t-preserved
loop-t-preserved c = more _ _ _ _ _ c.loop-t.invariant (omega arith) c.mark_at.ensures

pub returns : goal.returns
unfolding marks_of
returns c = full _ _ _ _ c.loop-t.invariant (omega arith)
