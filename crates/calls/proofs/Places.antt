-- What the visits of a calculation leave alone, by the table of the places that they set. Assumes nothing.
use mathlib.Core.Bool.{Bool, true, false, true≢false}
use mathlib.Core.List.{List}
use mathlib.Core.Path.{◌≡◌, refl, sym, ap, ◌∙◌}
use Prim.Native.Nat.{ℕ, zero, suc, ◌+◌, ◌-◌, ◌≤◌, ◌<◌}
use native.Mathlib.Omega.{arith}
use lib.ListN.{length, get_or}
use lib.Ieee.{Float, nan}
use Rattle.numbers.specs.Double.{0·0}
use Rattle.slots.specs.Parts.{Clear}
use Rattle.slots.specs.Slots.{cleared}
use Rattle.slots.proofs.Blocks.{cleared-zero}
use Rattle.slots.proofs.Lengths.{length-cleared}
use Rattle.calls.specs.Places.{Table, Tabled, Rests}
use Rattle.calls.specs.Portions.{Sound, after}
use Rattle.calls.specs.Position.{Work, State, fresh, ended, advanced_by, closing, landed, step_of, iterate, opening}
use Rattle.calls.specs.declared.position.Outcome.{Outcome}
use Rattle.calls.specs.declared.position.Outcome.TheVariants.{Open, Accepted, Refused}
use Rattle.calls.proofs.Steps.{visits, closed, iterate-add, step-closed, step-open, run-closed}

-- a run that ends open began open
open-first : (w : Work) (k : ℕ) (s : State) → closed (iterate (step_of w) k s) ≡ false → closed s ≡ false
open-first w k s o = go (closed s) refl
  where
    go : (b : Bool) → closed s ≡ b → b ≡ false
    go true c = absurd (true≢false (sym c ∙ ap closed (sym (run-closed w.visit w.results k s c)) ∙ o))
    go false c = refl

module _ {w : Work} {table : Table} (tabled : Tabled w table) (i : ℕ) where
  -- one visit that leaves the position open and does not set place i
  step_stays : (s : State) → closed s ≡ false → closed (step_of w s) ≡ false → Clear (table (visits s)) i
      → (visits (step_of w s) ≡ visits s + 1) × (get_or (step_of w s).1 i nan ≡ get_or s.1 i nan)
  unfolding advanced_by ended closing
  step_stays s c o f =
      rw (step-open w.visit w.results s c)
      (go (w.visit (visits s) s.1) ((tabled.sets (visits s) s.1).kept i f) (rw (step-open w.visit w.results s c) at o))
    where
      go : (e : Outcome × List Float) → get_or e.1 i nan ≡ get_or s.1 i nan → closed (landed w.results s e) ≡ false
          → (visits (landed w.results s e) ≡ visits s + 1) × (get_or (landed w.results s e).1 i nan ≡ get_or s.1 i nan)
      go (Open, ws) g o = (refl, g)
      go (Accepted, ws) g o = absurd (true≢false o)
      go (Refused r, ws) g o = absurd (true≢false o)

  -- visits in a row that do not set it
  run-stays : (j k : ℕ) (s : State) → visits s ≡ k → Rests table i k (k + j) → closed (iterate (step_of w) j s) ≡ false
      → get_or (iterate (step_of w) j s).1 i nan ≡ get_or s.1 i nan
  unfolding iterate
  run-stays zero k s v f o = refl
  run-stays (suc j) k s v f o =
      let d = step_stays s (open-first w (suc j) s o) (open-first w j (step_of w s) o) (rw v (f k (omega arith) (omega arith))) in
      run-stays j (k + 1) (step_of w s) (d.0 ∙ ap (λ (x : ℕ). x + 1) v) (λ x a b. f x (omega arith) (omega arith)) o ∙ d.1

-- an open state has made as many visits as steps
run-open : (w : Work) (k : ℕ) (s : State) → closed (iterate (step_of w) k s) ≡ false → visits (iterate (step_of w) k s) ≡ visits s + k
unfolding iterate advanced_by
run-open w zero s o = omega arith
run-open w (suc k) s o =
    let d = ap visits (step-open w.visit w.results s (open-first w (suc k) s o)) in
    omega (arith, run-open w k (step_of w s) o, d)

module _ {w : Work} {table : Table} (tabled : Tabled w table) (ws out : List Float) where
  abbrev first : State
  first = (opening (fresh w), cleared ws, out)

  -- what was set stays until a visit that the table lists for it
  pub stays : (k l i : ℕ) → k ≤ l → Rests table i k l → closed (after w l ws out) ≡ false → get_or (after w l ws out).1 i nan ≡ get_or (after w k ws out).1 i nan
  stays k l i h f o = rw run (run-stays tabled i (l - k) k (after w k ws out) made (λ v a b. f v a (omega arith)) (rw run at o))
    where
      e : k + (l - k) ≡ l
      e = omega arith

      run : after w l ws out ≡ iterate (step_of w) (l - k) (after w k ws out)
      run = ap (λ (x : ℕ). after w x ws out) (sym e) ∙ iterate-add (step_of w) k (l - k) first

      made : visits (after w k ws out) ≡ k
      made = omega (arith, run-open w k first (open-first w (l - k) (after w k ws out) (rw run at o)))

-- the workspace has a place i, where it is +0.0
abbrev Zero : ℕ → List Float → Type 0
Zero i ws = (i < length ws) × (get_or ws i nan ≡ 0·0)

zero-cleared : (i : ℕ) (ws : List Float) → i < length ws → Zero i (cleared ws)
zero-cleared i ws h = (rw (length-cleared ws) h, cleared-zero ws i h)

module _ {w : Work} {table : Table} (sound : Sound w) (tabled : Tabled w table) (i : ℕ) (clear : (v : ℕ) → Clear (table v) i) where
  step-zero : (s : State) → Zero i s.1 → Zero i (step_of w s).1
  unfolding closing
  step-zero s z = go (closed s) refl
    where
      land : (e : Outcome × List Float) → Zero i e.1 → Zero i (landed w.results s e).1
      land (Open, ws) h = h
      land (Accepted, ws) h = zero-cleared i ws h.0
      land (Refused r, ws) h = zero-cleared i ws h.0

      made : Zero i (w.visit (visits s) s.1).1
      made = (rw (sound.kept (visits s) s.1) z.0, (tabled.sets (visits s) s.1).kept i (clear (visits s)) ∙ z.1)

      go : (b : Bool) → closed s ≡ b → Zero i (step_of w s).1
      go true c = rw (step-closed w.visit w.results s c) z
      go false c = rw (step-open w.visit w.results s c) (land (w.visit (visits s) s.1) made)

  run-zero : (k : ℕ) (s : State) → Zero i s.1 → Zero i (iterate (step_of w) k s).1
  unfolding iterate
  run-zero zero s z = z
  run-zero (suc k) s z = run-zero k (step_of w s) (step-zero s z)

  -- a place of no table is +0.0 throughout, closed or not
  pub never : (ws out : List Float) → i < length ws → (k : ℕ) → get_or (after w k ws out).1 i nan ≡ 0·0
  never ws out h k = (run-zero k (opening (fresh w), cleared ws, out) (zero-cleared i ws h)).1
