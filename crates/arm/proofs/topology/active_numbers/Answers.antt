use mathlib.Core.Path.{◌≡◌, refl}
use Prim.Native.Nat.{zero-le}
use native.Mathlib.Omega.{arith}
use Rattle.numbers.proofs.Filled.{none, more, full}
use Rattle.arm.specs.Topology.{actives_of, active_numbers}
use Rattle.arm.proofs.topology.Counts.{actives-active, actives-fixed}
use Rattle.arm.proofs.topology.active_numbers.Goals as goal

pub loop-j-init : goal.loop-j-init
unfolding actives_of
loop-j-init c = record { filled = none _ 33 _ refl zero-le; count = refl }

pub loop-j-preserved : goal.loop-j-preserved
loop-j-preserved c =
    record {
      filled = more _ 33 _ _ _ c.loop-j.invariant.filled (omega arith) c.loop-j.invariant.count;
      count = grind (arith, actives-active, actives-fixed);
    }

pub returns : goal.returns
unfolding active_numbers
returns c =
    let e : c.loop-j.j ≡ 32 = omega arith in
    full (actives_of c.args.kinds.now) 33 _ 33 (more _ 33 _ 32 _ (rw e at c.loop-j.invariant.filled) (omega arith) (rw e at c.loop-j.invariant.count)) (omega arith)
