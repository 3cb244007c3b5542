-- `request::all_below` meets its contract.
use Rattle.std.proofs.Common.{rules, ◌+◌}
use lib.Dec.{ltb}
use borrow.Author.Tests.{tests}
use Rattle.std.proofs.lemmas.Iterator.{YieldsList-from_slice}
use Rattle.std.proofs.lemmas.Iterator.Search.{all_from_yields_List}
use Rattle.standing_requests.proofs.request.all_below.Goals as goal

pub returns : goal.returns
returns c = all_from_yields_List (λ y. ltb y (c.args.n + c.args.more)) _ _ _ c.all.ensures.ran (YieldsList-from_slice c.args.l.now cc) (λ x b q k. search (rules, tests))
