use Prim.Native.Nat.{zero-le}
use native.Mathlib.Omega.{arith}
use Rattle.numbers.proofs.Filled.{none, more, full}
use Rattle.plain_matrix.specs.PlainMatrix.{plain_entries}
use Rattle.plain_matrix.proofs.matrix.put_entries.Invariants.{}
use Rattle.plain_matrix.proofs.matrix.put_entries.Goals as goal

pub loop-t-init : goal.loop-t-init
loop-t-init c = none _ _ _ c.requires.2 zero-le

pub loop-t-preserved : goal.loop-t-preserved
loop-t-preserved c = more _ _ _ _ _ c.loop-t.invariant (omega arith) c.number.ensures

pub returns : goal.returns
unfolding plain_entries
returns c = full _ _ _ _ c.loop-t.invariant (omega arith)
