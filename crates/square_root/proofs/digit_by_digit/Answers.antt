use native.Mathlib.Omega.{arith}
use Rattle.square_root.proofs.Whole.{root-small}
use Rattle.square_root.proofs.Rounds.{digits-rounded}
use Rattle.square_root.proofs.digit_by_digit.Goals as goal

pub overflow_add-result : goal.overflow_add-result
overflow_add-result c = let r = root-small c.digits.result c.args.w c.ranges.w.fits c.digits.ensures.0 in omega arith

pub returns : goal.returns
returns c = digits-rounded c.args.w c.digits.result c.ranges.w.fits c.digits.ensures.0 c.digits.ensures.1
