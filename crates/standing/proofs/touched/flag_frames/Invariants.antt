use mathlib.Core.Bool.{◌&&◌}
use Rattle.arm.specs.Model.{parent_of}
use Rattle.standing.specs.Tree.{carries}
use Rattle.standing.specs.Standing.{reframed}
use Rattle.standing.proofs.Climbs.{Gathers}
use Rattle.standing.proofs.touched.flag_frames.Given as goal

abbrev pub invariant-loop-x : goal.invariant-loop-x
invariant-loop-x l = Gathers (λ k x. carries (parent_of l.joints.parents.now) k (parent_of l.joints.parents.now x) && reframed l.joints.kinds.now l.changes.frames l.changes.axes x) l.initial.flags l.flags l.x
