use Rattle.mass_matrix.proofs.Ready as matrix
use Rattle.forward_dynamics.proofs.Ready as forward
use Rattle.dynamics.proofs.Works.{on_fine}
use Rattle.dynamics.proofs.judged.Goals as goal

pub returns-in-Matrix-clause-good : goal.returns-in-Matrix-clause-good
returns-in-Matrix-clause-good c = on_fine c.judged.ensures (matrix.passed-good _ _ _ _ _ _ _ _)

pub returns-in-Forward-clause-good : goal.returns-in-Forward-clause-good
returns-in-Forward-clause-good c = on_fine c.judged-in-Forward.ensures (forward.passed-good _ _ _ _ _ _ _ _ _)
