use mathlib.Core.Bool.{◌&&◌}
use mathlib.Core.Path.{◌∙◌}
use Prim.Native.Nat.{suc, ◌+◌}
use native.Mathlib.Omega.{arith}
use Rattle.arm.specs.Model.{parent_of}
use Rattle.standing.specs.Tree.{carries}
use Rattle.standing.specs.Standing.{another}
use Rattle.standing.proofs.Flags.{and_is, and-not}
use Rattle.standing.proofs.Climbs.{Gathers, gathers-begin, gathers-on, gathers-over, gathers-end}
use Rattle.standing.proofs.touched.flag_links.Goals as goal
use Rattle.standing.proofs.touched.flag_links.Goals.{Joined-changes-x, then-changes-x, else-changes-x}

pub loop-x-init : goal.loop-x-init
loop-x-init c = gathers-begin _ _

-- link x is done
next : (c : Joined-changes-x) → Gathers (λ l x. carries (parent_of c.args.joints.now.parents.now) l x && another c.args.changes.now.links x) c.args.flags.now c.if-changes-x.flags (c.loop-x.x + 1)
next c =
    let P = parent_of c.args.joints.now.parents.now in
    let g = c.loop-x.invariant in
    elim c.if-changes-x.branch [
      | then-changes-x w ↦ gathers-on _ _ _ _ g (λ l. carries P l c.loop-x.x) 33 _ c.requires.1 (w.flags-is ∙ w.flag_up.ensures) (λ l. and_is (carries P l c.loop-x.x) w.if-changes-x.true)
      | else-changes-x w ↦ rw w.flags-is (gathers-over _ _ _ _ g (λ l. and-not (carries P l c.loop-x.x) w.if-changes-x.false))
    ]

pub loop-x-preserved : goal.loop-x-preserved
loop-x-preserved c = next (goal.at.loop-x-preserved c).Joined-changes-x

pub returns-after-changes-x : goal.returns-after-changes-x
returns-after-changes-x c = gathers-end _ _ _ _ (next (goal.at.returns-after-changes-x c).Joined-changes-x) 33 (suc c.args.joints.now.n) c.requires.1 (omega arith)
