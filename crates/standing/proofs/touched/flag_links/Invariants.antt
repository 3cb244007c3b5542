use mathlib.Core.Bool.{◌&&◌}
use Rattle.arm.specs.Model.{parent_of}
use Rattle.standing.specs.Tree.{carries}
use Rattle.standing.specs.Standing.{another}
use Rattle.standing.proofs.Climbs.{Gathers}
use Rattle.standing.proofs.touched.flag_links.Given as goal

abbrev pub invariant-loop-x : goal.invariant-loop-x
invariant-loop-x l = Gathers (λ k x. carries (parent_of l.joints.parents.now) k x && another l.changes.links x) l.initial.flags l.flags l.x
