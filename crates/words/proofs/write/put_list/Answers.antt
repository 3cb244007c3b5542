-- `write::put_list` meets its contract.
use lib.ListN.{take}
use Rattle.words.proofs.write.Laws.{list_put}
use Rattle.words.proofs.write.put_list.Goals as goal

pub returns : goal.returns
returns g c =
    let a = c.args in list_put c.loop-x.invariant a.at (take a.at a.out.now) c.loop-x-test.false c.put-a.ensures
