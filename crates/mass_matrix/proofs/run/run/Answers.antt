use mathlib.Core.Path.{◌≡◌, refl}
use native.Mathlib.Omega.{arith}
use native.Mathlib.Nat.{sub-zero}
use Prim.Native.Nat.{◌+◌, ◌-◌}
use Rattle.calls.proofs.Steps.{run-stops, run-spent, run_on}
use borrow.Author.Rules.{rules}
use Rattle.mass_matrix.proofs.run.run.Goals as goal

pub loop-init : goal.loop-init
loop-init c = (refl, refl, search rules, rw sub-zero)

pub returns-then-s : goal.returns-then-s
returns-then-s c = run-stops _ _ _ _ _ _ c.loop.invariant.3 c.if-s.true

pub loop-preserved : goal.loop-preserved
loop-preserved c =
    let e : c.args.budget - (c.loop.counter + 1) ≡ c.args.budget - c.loop.counter - 1 = omega arith in
    (search rules, search rules, c.step-s.ensures.1, rw e (run_on _ _ _ _ _ _ c.loop.invariant.3 (omega arith) c.if-s.false c.step-s.ensures.0))

pub returns : goal.returns
returns c = run-spent _ _ _ _ _ _ c.loop.invariant.3 (omega arith)
