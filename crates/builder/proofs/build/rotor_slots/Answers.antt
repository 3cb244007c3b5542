use Rattle.std.proofs.Common.{rules}
use Rattle.numbers.specs.Double.{0·0}
use Rattle.numbers.proofs.Made.{made}
use Rattle.builder.specs.Build.{slot_by, rotor_slot, rotor_slots}
use Rattle.builder.proofs.build.rotor_slots.Goals as goal

pub returns : goal.returns
unfolding rotor_slots rotor_slot
returns c = made _ (slot_by 0·0 c.args.n (rotor_slot c.args.kinds.now c.args.rotors.now)) _ (λ i q y k. search rules) _ _ c.from_fn.ensures.items
