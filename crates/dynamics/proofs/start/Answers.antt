use Rattle.dynamics.proofs.Works.{start_is}
use Rattle.dynamics.proofs.start.Goals as goal

pub returns-in-Err : goal.returns-in-Err
returns-in-Err c = rw (start_is, ← c.judged.ensures.verdict, c.in-Err.is, ← c.is_matrix-matrix.ensures, ← c.floats-floating.ensures, ← c.shut.ensures, c.refused.ensures)

pub returns-in-Ok : goal.returns-in-Ok
returns-in-Ok c = rw (start_is, ← c.judged.ensures.verdict, c.in-Ok.is, ← c.is_matrix-matrix.ensures, ← c.floats-floating.ensures, ← c.number_at-a.ensures, ← c.fresh.ensures, c.begun.ensures, c.clear.ensures)
