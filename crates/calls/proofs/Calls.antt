-- The calls of any calculation, put together from what their steps gave. Assumes nothing.
use mathlib.Core.List.{List}
use mathlib.Core.Path.{◌≡◌}
use Prim.Native.Nat.{ℕ}
use lib.ListN.{length}
use lib.Ieee.{Float}
use Rattle.std.specs.Prelude.{Err}
use Rattle.refusals.specs.Refusals.{Verdict, fine}
use Rattle.refusals.specs.declared.Refusal.{Refusal}
use Rattle.slots.specs.Slots.{cleared}
use Rattle.calls.specs.Position.{Work, Result, visits_of, fresh, shut, begun_at, refused_at, ran, checks_of, start_of, portion_of, whole_of}
use Rattle.calls.specs.declared.position.Answer.{Answer}
use Rattle.calls.specs.declared.position.Position.{Position}

module _ (w : Work) (ws out : List Float) where
  -- what the checks to 22 said
  module _ {v : Verdict} (ev : v ≡ w.inputs (length ws) (length out)) where
    module _ {r : Refusal} {p : Position} {t : Answer} (h : v ≡ Err r) (ep : p ≡ shut w) (et : t ≡ refused_at p r) where
      pub start-refused : (t, ws, out) ≡ start_of w ws out
      unfolding start_of
      start-refused = rw (← ev, h, et, ep)

      pub whole-refused : (t, ws, out) ≡ whole_of w ws out
      unfolding whole_of
      whole-refused = rw (← ev, h, et, ep)

    module _ {p : Position} {ws₁ : List Float} (h : v ≡ fine) (ep : p ≡ fresh w) (ew : ws₁ ≡ cleared ws) where
      pub start_fine : {t : Answer} → t ≡ begun_at p → (t, ws₁, out) ≡ start_of w ws out
      unfolding start_of
      start_fine et = rw (← ev, h, et, ep, ew)

      pub whole-fine : {all : ℕ} {r : Result} → all ≡ visits_of w.matrix w.n w.a → r ≡ ran w all p ws₁ out → r ≡ whole_of w ws out
      unfolding whole_of
      whole-fine ea er = rw (← ev, h, ← ea, ← ep, ← ew) er

  -- and with them 23 and 24
  module _ {v : Verdict} (p : Position) (ev : v ≡ checks_of w p (length ws) (length out)) where
    pub portion-refused : {r : Refusal} {t : Answer} (budget : ℕ) → v ≡ Err r → t ≡ refused_at p r → (t, ws, out) ≡ portion_of w budget p ws out
    unfolding portion_of
    portion-refused budget h et = rw (← ev, h, et)

    pub portion-fine : {r : Result} (budget : ℕ) → v ≡ fine → r ≡ ran w budget p ws out → r ≡ portion_of w budget p ws out
    unfolding portion_of
    portion-fine budget h er = rw (← ev, h) er
