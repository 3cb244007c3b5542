-- The turns make a run.
use Rattle.std.proofs.Common.{[]}
use Rattle.desk.specs.Turns.{begun, turned}
use Rattle.desk.proofs.main.Goals as goal

pub turns-init : goal.turns-init
turns-init c = (c.begin-k.ensures.within, [], [], begun c.begin-k.ensures)

pub turns-preserved : goal.turns-preserved
turns-preserved c = (c.turn-k.ensures.within, _, _, turned c.turns.invariant.3 c.turn-k.ensures)
