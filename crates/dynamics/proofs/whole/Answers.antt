use mathlib.Core.Path.{refl}
use Rattle.calls.proofs.Fits.{within-fresh}
use Rattle.dynamics.proofs.Works.{whole_is}
use Rattle.dynamics.proofs.whole.Goals as goal

pub returns-in-Err : goal.returns-in-Err
returns-in-Err c = rw (whole_is, ← c.judged.ensures.verdict, c.in-Err.is, ← c.is_matrix-matrix.ensures, ← c.floats-floating.ensures, ← c.shut.ensures, c.refused.ensures)

pub returns-in-Ok : goal.returns-in-Ok
returns-in-Ok c = rw (whole_is, ← c.judged.ensures.verdict, c.in-Ok.is, ← c.is_matrix-matrix.ensures, ← c.floats-floating.ensures, ← c.number_at-a.ensures, ← c.fresh-from.ensures, ← c.visits-all.ensures, ← c.clear.ensures) c.ran.ensures

pub ran-requires-clause-within : goal.ran-requires-clause-within
ran-requires-clause-within c = rw (← c.is_matrix-matrix.ensures, ← c.floats-floating.ensures) (within-fresh _ _ _ _ _ refl _ c.fresh-from.ensures)
