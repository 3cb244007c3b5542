use Rattle.std.proofs.Common.{◌≡◌, rules, reverse, ap, ◌∙◌, Option}
use Rattle.std.specs.List.{reduce}
use Rattle.std.specs.Option.{unwrap_or}
use Rattle.std.proofs.iter.runs.Made.{chains}
use Rattle.numbers.specs.Double.{◌⊕◌, ◌⊗◌}
use lib.Ieee.{Float, of_bits, binary64}
use Rattle.half_turn.proofs.Lists.{from_last}
use Rattle.half_turn.proofs.horner.Goals as goal

pub returns : goal.returns
returns c =
    let e : c.reduce.result ≡ reduce (λ (p : Float) (x : Float). x ⊕ c.args.z ⊗ p) (reverse c.args.c.now) = search (rules, chains) in
    c.unwrap_or.ensures ∙ ap (λ (r : Option Float). unwrap_or r (of_bits binary64 9221120237041090560)) e ∙ from_last c.args.z c.args.c.now
