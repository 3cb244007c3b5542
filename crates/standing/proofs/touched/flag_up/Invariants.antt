use Rattle.arm.specs.Model.{parent_of}
use Rattle.standing.proofs.Climbs.{Climbs}
use Rattle.standing.proofs.touched.flag_up.Given as goal

abbrev pub invariant-loop-l : goal.invariant-loop-l
invariant-loop-l l = Climbs l.joints.n (parent_of l.joints.parents.now) l.initial.flags l.x l.flags l.l

abbrev pub decreases-loop-l : goal.decreases-loop-l
decreases-loop-l l = l.l
