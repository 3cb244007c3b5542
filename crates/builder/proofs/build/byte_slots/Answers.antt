use lib.ListN.{get_or}
use Rattle.std.proofs.Common.{rules}
use Rattle.numbers.proofs.Made.{made}
use Rattle.builder.specs.Build.{slot_by, byte_slots}
use Rattle.builder.proofs.build.byte_slots.Goals as goal

pub returns : goal.returns
unfolding byte_slots
returns c = made _ (slot_by 0 c.args.n (λ j. get_or c.args.s.now j 0)) _ (λ i q y k. search rules) _ _ c.from_fn.ensures.items
