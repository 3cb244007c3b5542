-- Either calculation, as one. Definitions only.
use Rattle.std.specs.Prelude.{Bool, true, false, List, ℕ, Float}
use Rattle.refusals.specs.Refusals.{Verdict}
use Rattle.arm.specs.Model.{bundle}
use Rattle.arm.specs.declared.model.Model.{Model}
use Rattle.calls.specs.Position.{Work}
use Rattle.mass_matrix.specs.Checks as matrix
use Rattle.mass_matrix.specs.MassMatrix.{mass_matrix, floats as matrix_floats, rotation_of as matrix_rotation}
use Rattle.forward_dynamics.specs.Checks as forward
use Rattle.forward_dynamics.specs.ForwardDynamics.{forward_dynamics, floats as forward_floats, rotation_of as forward_rotation, base_velocity}
use Rattle.forward_visits.specs.Inputs.{Inputs}
use Rattle.dynamics.specs.declared.calculation.Calculation.{Calculation}
use Rattle.dynamics.specs.declared.calculation.Calculation.TheVariants.{Matrix, Forward}

-- of what forward dynamics is given, the matrix is given q alone
abbrev pub work_of : Calculation → Model → Inputs → Work
work_of (Matrix mode) m i = mass_matrix mode m i.q
work_of (Forward mode) m i = forward_dynamics mode m i

-- the calculation on a model's lists
abbrev pub work_by : Calculation → ℕ → List ℕ → List ℕ → List Float → List Float → List Float → List Float → Inputs → Work
work_by c n parents kinds origins axes links rotors i = work_of c (bundle n parents kinds origins axes links rotors) i

-- ---- what the steps of the code promise each other

abbrev pub is_matrix : Calculation → Bool
is_matrix (Matrix mode) = true
is_matrix (Forward mode) = false

abbrev pub floats : Calculation → Bool
floats (Matrix mode) = matrix_floats mode
floats (Forward mode) = forward_floats mode

-- the checks to 22
abbrev pub verdict_of : Calculation → ℕ → List ℕ → List ℕ → Inputs → ℕ → ℕ → Verdict
verdict_of (Matrix mode) n parents kinds i ws out = matrix.inputs_verdict (matrix_floats mode) (matrix_rotation mode) n parents kinds i.q ws out
verdict_of (Forward mode) n parents kinds i ws out = forward.inputs_verdict (forward_floats mode) (forward_rotation mode) (base_velocity mode) n parents kinds i ws out
