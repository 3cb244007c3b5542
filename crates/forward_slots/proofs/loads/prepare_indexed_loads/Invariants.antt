use Rattle.forward_slots.proofs.loads.Pass.{Gathered}
use Rattle.forward_slots.proofs.loads.prepare_indexed_loads.Given as goal

abbrev pub invariant-loop-k : goal.invariant-loop-k
invariant-loop-k l = Gathered l.n l.loaded l.loads l.initial.ws l.k l.root l.any l.ws
