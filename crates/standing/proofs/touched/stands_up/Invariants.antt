use mathlib.Core.Path.{◌≡◌}
use Prim.Native.Nat.{◌<◌}
use Rattle.standing.specs.Standing.{stands_up}
use Rattle.standing.proofs.touched.stands_up.Given as goal

abbrev pub invariant-loop-at : goal.invariant-loop-at
invariant-loop-at l = (l.at < l.joints.n) × (stands_up l.joints.n l.joints.parents.now l.joints.kinds.now l.changes.frames l.changes.axes l.known l.at l.i ≡ stands_up l.joints.n l.joints.parents.now l.joints.kinds.now l.changes.frames l.changes.axes l.touched l.j l.i)

abbrev pub decreases-loop-at : goal.decreases-loop-at
decreases-loop-at l = l.at
