use mathlib.Core.Path.{refl}
use Prim.Native.Nat.{zero-le}
use native.Mathlib.Omega.{arith}
use Rattle.numbers.proofs.Filled.{none, full}
use Rattle.builder.specs.Build.{axis_slot, axis_slots}
use Rattle.builder.proofs.build.Threes.{more-threes}
use Rattle.builder.proofs.build.axis_slots.Goals as goal

pub loop-j-init : goal.loop-j-init
loop-j-init c = none _ 96 _ refl zero-le

pub loop-j-preserved : goal.loop-j-preserved
loop-j-preserved c = rw c.put_vec3.ensures (more-threes (axis_slot c.args.n c.args.kinds.now c.args.axes.now) _ _ c.axis_slot.result c.loop-j.invariant c.loop-j-test.true c.axis_slot.ensures)

pub returns : goal.returns
unfolding axis_slots
returns c = full _ 96 _ _ c.loop-j.invariant (omega arith)
