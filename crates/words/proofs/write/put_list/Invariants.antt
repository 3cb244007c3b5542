use Rattle.words.proofs.write.Laws.{Putting}
use Rattle.words.proofs.write.put_list.Given as goal

abbrev pub invariant-loop-x : goal.invariant-loop-x
invariant-loop-x g l = Putting g.T.Word.text l.l l.initial.a l.initial.out l.out l.a l.x-index
