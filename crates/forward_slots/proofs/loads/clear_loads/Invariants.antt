use Rattle.std.proofs.Common.{◌≡◌, [], length}
use Rattle.forward_slots.specs.Loads.{loads_to}
use Rattle.forward_slots.proofs.loads.clear_loads.Given as goal

abbrev pub invariant-loop-j : goal.invariant-loop-j
invariant-loop-j l = l.ws ≡ loads_to [] [] l.j l.initial.ws
