use Rattle.dynamics.proofs.Works.{portion_is}
use Rattle.dynamics.proofs.portion.Goals as goal

pub returns-in-Err : goal.returns-in-Err
returns-in-Err c = rw (portion_is, ← c.judged_at.ensures.verdict, c.in-Err.is, c.refused.ensures)

pub returns-in-Ok : goal.returns-in-Ok
returns-in-Ok c = rw (portion_is, ← c.judged_at.ensures.verdict, c.in-Ok.is) c.ran.ensures
