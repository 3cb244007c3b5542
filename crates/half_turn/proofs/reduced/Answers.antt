use mathlib.Core.Path.{◌≡◌, sym, ◌∙◌}
use mathlib.Core.Bool.{true, false}
use lib.Ieee.{of_bits, of_int}
use Rattle.half_turn.specs.HalfTurn.{within, of_nat, two_step_limit, two_steps_of, three_steps_of, reduced_of}
use Rattle.half_turn.proofs.reduced.Goals as goal

-- the code's limit has the bits of the definition's
pub returns-then-within : goal.returns-then-within
unfolding reduced_of two_steps_of
returns-then-within c =
    let e : within (of_nat two_step_limit) c.args.q ≡ true = unfold of_bits of_int in sym c.within.ensures ∙ c.if-within.true in
    rw e

pub returns : goal.returns
unfolding reduced_of three_steps_of
returns c =
    let e : within (of_nat two_step_limit) c.args.q ≡ false = unfold of_bits of_int in sym c.within.ensures ∙ c.if-within.false in
    rw e
