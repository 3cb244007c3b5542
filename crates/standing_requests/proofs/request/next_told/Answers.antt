-- `request::next_told` meets its contract. Flags that are all false, by their index.
use Rattle.std.proofs.Common.{refl}
use Rattle.numbers.specs.Table.{tab}
use Rattle.standing_requests.proofs.request.next_told.Goals as goal

pub next_named-requires : goal.next_named-requires
unfolding tab
next_named-requires c = refl

pub next_named-requires-2 : goal.next_named-requires-2
unfolding tab
next_named-requires-2 c = refl

pub next_named-requires-3 : goal.next_named-requires-3
unfolding tab
next_named-requires-3 c = refl

pub next_named-requires-4 : goal.next_named-requires-4
unfolding tab
next_named-requires-4 c = refl
