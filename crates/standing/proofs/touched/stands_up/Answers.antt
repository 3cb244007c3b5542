use mathlib.Core.Path.{refl, sym, ◌∙◌}
use Prim.Native.Nat.{◌-◌}
use native.Mathlib.Omega.{arith}
use Rattle.standing.proofs.Ups.{up-here, up_root, up-on}
use Rattle.standing.proofs.touched.stands_up.Goals as goal

pub loop-at-init : goal.loop-at-init
loop-at-init c = (c.requires.1, refl)

pub returns-then-up-eq0 : goal.returns-then-up-eq0
returns-then-up-eq0 c =
    let a = c.args in
    up_root a.joints.now.n a.joints.now.parents.now a.joints.now.kinds.now a.changes.now.frames a.changes.now.axes c.requires.0 a.i c.loop-at.at c.loop-at.invariant.0 c.loop-at-test.true c.loop-at.known (sym c.parent_at-up.ensures.0 ∙ c.if-up-eq0.true) ∙ c.loop-at.invariant.1

pub loop-at-preserved : goal.loop-at-preserved
loop-at-preserved c =
    let known = c.loop-at.known in (
      omega (arith, c.parent_at-up.ensures.1, c.loop-at.invariant.0),
      up-on _ _ _ _ _ c.requires.0 _ _ c.loop-at.invariant.0 c.loop-at-test.true (c.parent_at-up.result - 1) (omega (arith, c.if-up-eq0.false, c.parent_at-up.ensures.0)) known _
          (rw c.reframed_at-known.ensures refl)
          ∙ c.loop-at.invariant.1,
    )

pub returns : goal.returns
returns c =
    let a = c.args in
    up-here a.joints.now.n a.joints.now.parents.now a.joints.now.kinds.now a.changes.now.frames a.changes.now.axes c.requires.0 a.i c.loop-at.at c.loop-at.invariant.0 c.loop-at.known c.loop-at-test.false ∙ c.loop-at.invariant.1
