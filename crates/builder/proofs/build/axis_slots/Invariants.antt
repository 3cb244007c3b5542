use Prim.Native.Nat.{◌*◌}
use Rattle.numbers.proofs.Filled.{Filled}
use Rattle.builder.specs.Build.{axis_slot}
use Rattle.builder.proofs.build.Threes.{threes}
use Rattle.builder.proofs.build.axis_slots.Given as goal

abbrev pub invariant-loop-j : goal.invariant-loop-j
invariant-loop-j l = Filled (threes (axis_slot l.n l.kinds l.axes)) 96 l.slots (l.j * 3)
