use Rattle.std.proofs.Common.{◌≡◌, ◌+◌, ◌-◌, arith}
use native.Mathlib.Nat.{sub-zero}
use Rattle.calls.proofs.Steps.{run-stops, run-spent, run_on}
use Rattle.forward_dynamics.proofs.run.run.Goals as goal

pub loop-init : goal.loop-init
loop-init c = (c.requires.2, rw sub-zero)

pub returns-then-position : goal.returns-then-position
returns-then-position c = run-stops _ _ _ _ _ _ c.loop.invariant.1 c.if-position.true

pub loop-preserved : goal.loop-preserved
loop-preserved c =
    let e : c.args.budget - (c.loop.counter + 1) ≡ c.args.budget - c.loop.counter - 1 = omega arith in
    (c.step-s.ensures.1, rw e (run_on _ _ _ _ _ _ c.loop.invariant.1 (omega arith) c.if-position.false c.step-s.ensures.0))

pub returns : goal.returns
returns c = run-spent _ _ _ _ _ _ c.loop.invariant.1 (omega arith)
