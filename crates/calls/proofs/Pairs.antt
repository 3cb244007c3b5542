-- Two calculations side by side: if their visits keep two workspaces related, then so are the workspaces from which both write their output. Assumes nothing.
use mathlib.Core.Bool.{Bool, true, false, true≢false}
use mathlib.Core.List.{List}
use mathlib.Core.Path.{◌≡◌, refl, sym, ap, ◌∙◌}
use Prim.Native.Nat.{ℕ, zero, suc, ◌+◌}
use native.Mathlib.Omega.{arith}
use lib.ListN.{length}
use lib.Ieee.{Float}
use Rattle.std.specs.Prelude.{Ok, Err}
use Rattle.refusals.specs.Refusals.{Verdict, fine}
use Rattle.refusals.specs.declared.Refusal.{Refusal}
use Rattle.slots.specs.Slots.{cleared, part_of}
use Rattle.calls.specs.Position.{Work, State, visits_of, fresh, shut, ended, advanced_by, closing, landed, step_of, iterate, opening, answer_by, refused_at, ran, unless, whole_of}
use Rattle.calls.specs.declared.position.Outcome.{Outcome}
use Rattle.calls.specs.declared.position.Outcome.TheVariants.{Open, Accepted, Refused}
use Rattle.calls.proofs.Steps.{visits, closed, step-closed, step-open}

is_open : (o : Outcome) → ended o ≡ false → o ≡ Open
unfolding ended
is_open Open e = refl
is_open Accepted e = absurd (true≢false e)
is_open (Refused r) e = absurd (true≢false e)

open-accepts : Open ≡ Accepted → ⊥
open-accepts e = let z : ◌≡◌ {A = ℕ} 0 1 = cc in omega arith

refused-accepts : {r : Refusal} → Refused r ≡ Accepted → ⊥
refused-accepts e = let z : ◌≡◌ {A = ℕ} 0 1 = cc in omega arith

-- a call that accepts has passed its checks
pub accepted-fine : (w : Work) (ws out : List Float) → (whole_of w ws out).0.outcome ≡ Accepted → w.inputs (length ws) (length out) ≡ fine
unfolding whole_of refused_at
accepted-fine w ws out = go (w.inputs (length ws) (length out))
  where
    go : (v : Verdict) → (unless v (shut w) ws out (ran w (visits_of w.matrix w.n w.a) (fresh w) (cleared ws) out)).0.outcome ≡ Accepted → v ≡ fine
    go (Ok u) e = refl
    go (Err r) e = absurd (refused-accepts e)

-- two lists of so many numbers that stood from a place on in two workspaces
pub record Written (R : List Float → List Float → Type 0) (from from' n n' : ℕ) (a b : List Float) : Type 0 where
  pub left : List Float
  pub right : List Float
  pub related : R left right
  pub first : a ≡ part_of left from n
  pub second : b ≡ part_of right from' n'

module _ (w v : Work) (R : List Float → List Float → Type 0)
    (visit : (k : ℕ) (s t : List Float) → R s t → R (w.visit k s).1 (v.visit k t).1)
    (ends : (k : ℕ) (s t : List Float) → ended (w.visit k s).0 ≡ ended (v.visit k t).0)
    (out out' : List Float) where
  abbrev Output : List Float → List Float → Type 0
  Output = Written R w.results v.results (length out) (length out')

  -- two states after as many visits
  record Beside (x y : State) : Type 0 where
    made : visits x ≡ visits y
    ended-too : closed x ≡ closed y
    going : closed x ≡ false → R x.1 y.1
    kept : closed x ≡ false → (x.2 ≡ out) × (y.2 ≡ out')
    written : x.0.outcome ≡ Accepted → y.0.outcome ≡ Accepted → Output x.2 y.2

  lands : (x y : State) → Beside x y → closed x ≡ false → (e f : Outcome × List Float) → R e.1 f.1 → ended e.0 ≡ ended f.0 → Beside (landed w.results x e) (landed v.results y f)
  unfolding advanced_by closing
  lands x y b o e f r g =
      let k = b.kept o in
      record {
        made = ap (λ (k : ℕ). k + 1) b.made;
        ended-too = g;
        going = λ c. rw (is_open e.0 c, is_open f.0 (sym g ∙ c)) r;
        kept = λ c. rw (is_open e.0 c, is_open f.0 (sym g ∙ c)) k;
        written = λ a d. rw (a, d) (record { left = e.1; right = f.1; related = r; first = rw k.0; second = rw k.1 });
      }

  steps : (x y : State) → Beside x y → Beside (step_of w x) (step_of v y)
  steps x y b = go (closed x) refl
    where
      go : (c : Bool) → closed x ≡ c → Beside (step_of w x) (step_of v y)
      go true c = rw (step-closed w.visit w.results x c, step-closed v.visit v.results y (sym b.ended-too ∙ c)) b
      go false c =
          rw (step-open w.visit w.results x c, step-open v.visit v.results y (sym b.ended-too ∙ c))
          (lands x y b c (w.visit (visits x) x.1) (v.visit (visits y) y.1) (kept (visits y) b.made) (both (visits y) b.made))
        where
          kept : (k : ℕ) → visits x ≡ k → R (w.visit (visits x) x.1).1 (v.visit k y.1).1
          kept k e = rw (← e) (visit (visits x) x.1 y.1 (b.going c))

          both : (k : ℕ) → visits x ≡ k → ended (w.visit (visits x) x.1).0 ≡ ended (v.visit k y.1).0
          both k e = rw (← e) (ends (visits x) x.1 y.1)

  runs : (k : ℕ) (x y : State) → Beside x y → Beside (iterate (step_of w) k x) (iterate (step_of v) k y)
  unfolding iterate
  runs zero x y b = b
  runs (suc k) x y b = runs k (step_of w x) (step_of v y) (steps x y b)

  -- two whole calls that accept
  pub both-written : (ws ws' : List Float) → visits_of w.matrix w.n w.a ≡ visits_of v.matrix v.n v.a → R (cleared ws) (cleared ws')
      → (whole_of w ws out).0.outcome ≡ Accepted → (whole_of v ws' out').0.outcome ≡ Accepted → Output (whole_of w ws out).2 (whole_of v ws' out').2
  unfolding whole_of answer_by
  both-written ws ws' count r e f =
      rw (accepted-fine w ws out e, accepted-fine v ws' out' f, ← count)
      ((runs (visits_of w.matrix w.n w.a) (opening (fresh w), cleared ws, out) (opening (fresh v), cleared ws', out') first).written
      (rw (accepted-fine w ws out e) at e) (rw (accepted-fine v ws' out' f, ← count) at f))
    where
      first : Beside (opening (fresh w), cleared ws, out) (opening (fresh v), cleared ws', out')
      first = record { made = refl; ended-too = refl; going = λ c. r; kept = λ c. (refl, refl); written = λ a. absurd (open-accepts a) }
