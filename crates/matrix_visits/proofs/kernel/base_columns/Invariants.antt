use mathlib.Core.Path.{◌≡◌}
use Rattle.matrix_visits.specs.Kernel.{base_loads_to}
use Rattle.matrix_visits.proofs.kernel.base_columns.Given as goal

abbrev pub invariant-loop-k : goal.invariant-loop-k
invariant-loop-k l = l.ws ≡ base_loads_to l.p l.r l.root l.k l.initial.ws
