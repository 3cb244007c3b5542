use Rattle.half_turn.proofs.Shift.{no_nan, answer}
use Rattle.half_turn.proofs.nearest.Goals as goal

pub float_to_bits-b : goal.float_to_bits-b
float_to_bits-b c = no_nan c.args.x c.requires

pub returns : goal.returns
returns c = answer c.args.x c.requires
