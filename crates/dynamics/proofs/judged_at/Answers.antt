use mathlib.Core.Path.{refl}
use Rattle.calls.proofs.Fits.{within-judged}
use Rattle.dynamics.proofs.Works.{on_fine}
use Rattle.dynamics.proofs.judged_at.Goals as goal

pub returns-clause-within : goal.returns-clause-within
returns-clause-within c = rw (← c.is_matrix.ensures, ← c.floats.ensures, ← c.number_at-a.ensures) (on_fine c.judged-2.ensures (within-judged _ _ _ _ _ refl _))
