use lib.Ieee.{of_bits, of_int}
use Rattle.half_turn.proofs.in_range.Goals as goal

-- the code's limit has the bits of the definition's
pub returns : goal.returns
unfolding of_bits of_int
returns c = c.within.ensures
