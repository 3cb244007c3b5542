use lib.ListN.{length}
use Rattle.words.proofs.list.Laws.{Filling}
use Rattle.words.proofs.read.Words.fill.Given as goal

abbrev pub invariant-loop-k : goal.invariant-loop-k
invariant-loop-k g l = Filling g.T.Item.item (length l.initial.into) l.self l.into l.words l.k
