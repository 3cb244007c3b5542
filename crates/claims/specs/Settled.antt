-- The table of each calculation: the places that its visits set (docs/LAYOUT.md). Definitions only.
use Rattle.arm.specs.declared.model.Model.{Model}
use Rattle.calls.specs.Places.{Table}
use Rattle.calls.specs.Plan.{plan_of}
use Rattle.matrix_visits.specs.Places as matrix
use Rattle.forward_visits.specs.Places as forward
use Rattle.dynamics.specs.Calculation.{floats}
use Rattle.dynamics.specs.declared.calculation.Calculation.{Calculation}
use Rattle.dynamics.specs.declared.calculation.Calculation.TheVariants.{Matrix, Forward}

abbrev pub table_of : Calculation → Model → Table
table_of (Matrix mode) m = matrix.set_by (plan_of (floats (Matrix mode)) m.n m.kinds) m.parents m.kinds
table_of (Forward mode) m = forward.set_by (plan_of (floats (Forward mode)) m.n m.kinds) m
