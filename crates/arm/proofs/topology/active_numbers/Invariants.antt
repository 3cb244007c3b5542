use mathlib.Core.Path.{◌≡◌}
use Rattle.numbers.proofs.Filled.{Filled}
use Rattle.arm.specs.Topology.{actives_of}
use Rattle.arm.proofs.topology.active_numbers.Given as goal

abbrev pub invariant-loop-j : goal.invariant-loop-j
invariant-loop-j l = record { filled : Filled (actives_of l.kinds) 33 l.numbers l.j; count : l.a ≡ actives_of l.kinds l.j }
