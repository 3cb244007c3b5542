use lib.ListN.{length}
use Rattle.standing_requests.proofs.request.Laws.{Flagged}
use Rattle.standing_requests.proofs.request.flag_listed.Given as goal

abbrev pub invariant-loop-x : goal.invariant-loop-x
invariant-loop-x l = Flagged l.l (length l.initial.flags) l.flags l.x-index
