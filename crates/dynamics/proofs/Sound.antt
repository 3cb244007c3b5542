-- Either calculation is sound. Assumes nothing.
use Rattle.arm.specs.declared.model.Model.{Model}
use Rattle.calls.specs.Portions.{Sound}
use Rattle.mass_matrix.proofs.Sound.{sound as matrix-sound}
use Rattle.forward_visits.specs.Inputs.{Inputs}
use Rattle.forward_dynamics.proofs.Sound.{sound as forward-sound}
use Rattle.dynamics.specs.Calculation.{work_of}
use Rattle.dynamics.specs.declared.calculation.Calculation.{Calculation}
use Rattle.dynamics.specs.declared.calculation.Calculation.TheVariants.{Matrix, Forward}

pub sound : (c : Calculation) (m : Model) (i : Inputs) → Sound (work_of c m i)
sound (Matrix mode) m i = matrix-sound mode m i.q
sound (Forward mode) m i = forward-sound mode m i
