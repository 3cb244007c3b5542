use mathlib.Core.Path.{◌≡◌}
use Prim.Native.Nat.{◌+◌, ◌≤◌}
use lib.ListN.{length}
use Rattle.spatial.specs.Wrench.{of_vector}
use Rattle.matrix_columns.specs.Walk.{Reached}
use Rattle.matrix_columns.proofs.column.walked.Given as goal

abbrev pub invariant-loop-link : goal.invariant-loop-link
invariant-loop-link l = (length l.ws ≡ length l.initial.ws) × (l.link ≤ l.j + 1) × Reached l.fitted.plan l.fitted.model.now.parents l.fitted.model.now.kinds l.fitted.model.now.axes l.column l.j (of_vector l.initial.end, l.initial.ws) l.link l.end l.ws

abbrev pub decreases-loop-link : goal.decreases-loop-link
decreases-loop-link l = l.link
