use native.Mathlib.Omega.{arith}
use Rattle.square_root.proofs.NotNan.{number, compared}
use Rattle.square_root.proofs.guess.estimate.Goals as goal

pub float_from_bits-x : goal.float_from_bits-x
float_from_bits-x c = number _ (omega arith)

pub float_from_bits-y0 : goal.float_from_bits-y0
float_from_bits-y0 c = number _ (omega arith)

pub float_to_bits-result : goal.float_to_bits-result
float_to_bits-result c = compared _ _ c.if-t.true
