use mathlib.Core.Path.{◌≡◌, sym, ◌∙◌, subst}
use Rattle.std.specs.Prelude.{Some}
use mathlib.Core.Bool.{true}
use lib.Dec.{T}
use lib.Ieee.{Float}
use Rattle.numbers.specs.Double.{◌⊗◌, 0·5}
use Rattle.half_turn.specs.declared.Turns.{Turns}
use Rattle.half_turn.specs.declared.SinCos.{SinCos}
use Rattle.half_turn.specs.HalfTurn.{K, turns_of, in_range, reduced_of, series_of, placed_of, sin_cos_by, sin_cos_of, half_turn_of, HalfTurnIs}
use Rattle.half_turn.proofs.Bound.{quarters-small}
use Rattle.half_turn.proofs.half_turn.Goals as goal

-- what the four calls ensure, put together
glue : (q r : Float) (t : Turns) (s p : SinCos) → in_range q ≡ true → t ≡ turns_of (q ⊗ 0·5 ⊗ K) → r ≡ reduced_of q (q ⊗ 0·5) t.whole
    → s ≡ series_of r → p ≡ placed_of s t.quarter → (Some p ≡ half_turn_of q) × HalfTurnIs q (Some p)
unfolding half_turn_of sin_cos_of sin_cos_by HalfTurnIs turns_of
glue q r t s p h a b d e = (rw (h, e, d, b, a), (h, rw (e, d, b, a)))

pub nearest-t-requires : goal.nearest-t-requires
nearest-t-requires c = quarters-small c.args.q (subst T (sym (sym c.in_range.ensures ∙ c.if-in_range.true)) tt)

pub returns-then-in_range : goal.returns-then-in_range
returns-then-in_range c =
    glue c.args.q c.reduced.result c.nearest-t.result c.series.result c.placed.result
    (sym c.in_range.ensures ∙ c.if-in_range.true) c.nearest-t.ensures c.reduced.ensures c.series.ensures c.placed.ensures

pub returns : goal.returns
unfolding half_turn_of HalfTurnIs
returns c = let e = sym c.in_range.ensures ∙ c.if-in_range.false in (rw e, e)
