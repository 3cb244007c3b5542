use Rattle.std.proofs.Common.{◌≡◌, arith}
use native.Mathlib.Nat.{le_of_suc-le-suc, lt_of_lt_of_le}
use lib.Pow.{pow_mono}
use Rattle.square_root.proofs.Steps.{turn, done}
use Rattle.square_root.proofs.digits.Goals as goal

pub loop-init : goal.loop-init
loop-init c = record { value = omega arith; rest = omega arith; short = omega arith }

pub step-p-requires : goal.step-p-requires
step-p-requires c =
    let b = lt_of_lt_of_le c.loop.invariant.short (pow_mono {i = c.loop.counter} {j = 53} (le_of_suc-le-suc c.loop-test.true)) in
    (c.loop.invariant.rest, b, omega arith)

pub loop-preserved : goal.loop-preserved
loop-preserved c = turn c.args.w c.loop.left c.loop.p.root c.loop.p.rem c.loop.counter c.step-p.result.root c.step-p.result.rem c.loop.invariant c.step-p.ensures

pub returns : goal.returns
returns c =
    let e : c.loop.counter ≡ 54 = omega arith in
    done c.args.w c.loop.left c.loop.p.root c.loop.p.rem c.loop.auto.left-fits.fits (rw e at c.loop.invariant)
