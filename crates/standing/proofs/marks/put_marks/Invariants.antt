use mathlib.Core.Bool.{Bool}
use mathlib.Core.List.{List}
use Prim.Native.Nat.{ℕ, ◌*◌}
use Rattle.numbers.proofs.Filled.{Filled}
use Rattle.calls.specs.declared.plan.Plan.{Plan}
use Rattle.standing.specs.Standing.{Changes, mark_number, stands_by}
use Rattle.standing.specs.declared.joints.Joints.{Joints}
use Rattle.standing.proofs.marks.put_marks.Given as goal

abbrev pub mark_of : Plan → Joints → Changes → List Bool → ℕ → Bool
mark_of p t c composites = mark_number p t.kinds.now (stands_by p.n t.parents.now t.kinds.now composites c.frames c.axes c.rotors)

abbrev pub invariant-loop-t : goal.invariant-loop-t
invariant-loop-t l = Filled (mark_of l.p l.joints l.changes l.composites) (l.p.side * l.p.side) l.marks l.t
