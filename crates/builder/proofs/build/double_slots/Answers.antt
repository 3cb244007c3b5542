use lib.ListN.{length, get_or}
use lib.Ieee.{nan}
use Rattle.std.proofs.Common.{rules}
use Rattle.numbers.specs.Double.{0·0}
use Rattle.numbers.proofs.Made.{made}
use Rattle.builder.specs.Build.{slot_by, double_slots}
use Rattle.builder.proofs.build.double_slots.Goals as goal

pub returns : goal.returns
unfolding double_slots
returns g c = made _ (slot_by 0·0 (length c.args.s.now) (λ t. get_or c.args.s.now t nan)) _ (λ i q y k. search rules) _ _ c.from_fn.ensures.items
