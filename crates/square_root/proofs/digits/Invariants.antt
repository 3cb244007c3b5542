use Rattle.square_root.proofs.Steps.{Taken}
use Rattle.square_root.proofs.digits.Given as goal

abbrev pub invariant-loop : goal.invariant-loop
invariant-loop l = Taken l.w l.left l.p.root l.p.rem l.counter
