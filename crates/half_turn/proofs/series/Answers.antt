use mathlib.Core.Path.{◌≡◌, ap, ◌∙◌}
use mathlib.Core.List.{List}
use lib.Ieee.{Float, binary64, mul}
use Rattle.half_turn.specs.HalfTurn.{series_of, horner_of, sin_list, cos_list}
use Rattle.half_turn.proofs.Tables.{sin-is, cos-is}
use Rattle.half_turn.proofs.series.Goals as goal

pub returns : goal.returns
unfolding series_of
returns c =
    let r = c.args.r in
    let z = mul binary64 r r in
    let e : c.horner.result ≡ horner_of sin_list z = c.horner.ensures ∙ ap (λ (l : List Float). horner_of l z) sin-is in
    let f : c.horner-2.result ≡ horner_of cos_list z = c.horner-2.ensures ∙ ap (λ (l : List Float). horner_of l z) cos-is in
    rw (e, f)
