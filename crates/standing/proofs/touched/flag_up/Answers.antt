use native.Mathlib.Omega.{arith}
use Rattle.standing.proofs.Climbs.{climbs-begin, climbs-on, climbs-end}
use Rattle.standing.proofs.touched.flag_up.Goals as goal

pub loop-l-init : goal.loop-l-init
loop-l-init c = climbs-begin _ _ _ _ c.requires.1

pub loop-l-preserved : goal.loop-l-preserved
loop-l-preserved c =
    rw c.parent_at-l.ensures.0
    (climbs-on _ _ _ _ _ _ (omega (arith, c.loop-l.invariant.size, c.loop-l.invariant.within, c.requires.0.few, c.requires.2)) c.loop-l.invariant c.requires.0.below c.loop-l-test.true)

pub returns : goal.returns
returns c =
    climbs-end _ _ _ _ _ _ (omega (arith, c.loop-l.invariant.size, c.loop-l.invariant.within, c.requires.0.few, c.requires.2)) c.loop-l.invariant 33 c.requires.2 c.loop-l-test.false
