use mathlib.Core.Path.{sym, ◌∙◌}
use native.Mathlib.Omega.{arith}
use Rattle.arm.specs.Model.{parent_of}
use Rattle.standing.specs.Tree.{carries}
use Rattle.standing.proofs.Flags.{and_is, and-not}
use Rattle.standing.proofs.Climbs.{gathers-begin, gathers-on, gathers-over, gathers-end}
use Rattle.standing.proofs.touched.flag_frames.Goals as goal
use Rattle.standing.proofs.touched.flag_frames.Goals.{then-reframed_at, else-reframed_at}

pub loop-x-init : goal.loop-x-init
loop-x-init c = gathers-begin _ _

pub loop-x-preserved : goal.loop-x-preserved
loop-x-preserved c =
    let P = parent_of c.args.joints.now.parents.now in
    let up = P c.loop-x.x in
    let g = c.loop-x.invariant in
    elim c.if-reframed_at.branch [
      | then-reframed_at w ↦ gathers-on _ _ _ _ g (λ l. carries P l up) 33 _ c.requires.1 (w.flags-is ∙ rw w.parent_at.ensures.0 at w.flag_up.ensures) (λ l. and_is (carries P l up) (sym c.reframed_at.ensures ∙ w.if-reframed_at.true))
      | else-reframed_at w ↦ rw w.flags-is (gathers-over _ _ _ _ g (λ l. and-not (carries P l up) (sym c.reframed_at.ensures ∙ w.if-reframed_at.false)))
    ]

pub returns : goal.returns
returns c = gathers-end _ _ _ _ c.loop-x.invariant 33 c.args.joints.now.n c.requires.1 (omega arith)
