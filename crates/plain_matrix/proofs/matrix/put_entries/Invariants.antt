use Prim.Native.Nat.{ℕ, ◌*◌}
use lib.Ieee.{Float}
use Rattle.numbers.proofs.Filled.{Filled}
use Rattle.numbers.specs.declared.quaternion.Quaternion.{Quaternion}
use Rattle.arm.specs.declared.posed.Posed.{Posed}
use Rattle.calls.specs.declared.plan.Plan.{Plan}
use Rattle.plain_entries.specs.Arm.{arm_of}
use Rattle.plain_matrix.specs.PlainMatrix.{plain_number}
use Rattle.plain_matrix.proofs.matrix.put_entries.Given as goal

abbrev pub number_at : Plan → Quaternion → Posed → ℕ → Float
number_at p r a = plain_number (arm_of a.model.now a.q.now) p r a.model.now.kinds

abbrev pub invariant-loop-t : goal.invariant-loop-t
invariant-loop-t l = Filled (number_at l.p l.r l.arm) (l.p.side * l.p.side) l.out l.t
