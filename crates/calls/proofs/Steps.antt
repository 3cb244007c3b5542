-- Visits in a row, of any calculation. Assumes nothing.
use mathlib.Core.Bool.{Bool, true, false, true≢false}
use mathlib.Core.List.{List}
use mathlib.Core.Path.{◌≡◌, refl, sym, ap, ◌∙◌}
use Prim.Native.Nat.{ℕ, zero, suc, ◌+◌, ◌-◌, ◌≤◌, ◌<◌}
use native.Mathlib.Omega.{arith}
use borrow.Author.Tests.{ltb-true, ltb-false}
use lib.Dec.{ltb}
use lib.Ieee.{Float}
use Rattle.calls.specs.declared.position.Outcome.{Outcome}
use Rattle.calls.specs.Position.{State, ended, advanced_by, closing, landed, step_by, iterate, opening}
use Rattle.calls.specs.declared.position.Position.{Position}
use Rattle.calls.specs.declared.position.Progress.{Progress}

abbrev pub visits : State → ℕ
visits s = s.0.position.visits

abbrev pub closed : State → Bool
closed s = s.0.position.closed

-- one visit of a run, and what is left of its budget
pub iterate-next : {S : Type 0} (f : S → S) (k : ℕ) (s : S) → 0 < k → iterate f (k - 1) (f s) ≡ iterate f k s
unfolding iterate
iterate-next f zero s h = absurd (omega arith)
iterate-next f (suc k) s h = let e : suc k - 1 ≡ k = omega arith in rw e

pub iterate-add : {S : Type 0} (f : S → S) (j k : ℕ) (s : S) → iterate f (j + k) s ≡ iterate f k (iterate f j s)
unfolding iterate
iterate-add f zero k s = let e : 0 + k ≡ k = omega arith in rw e
iterate-add f (suc j) k s = let e : suc j + k ≡ suc (j + k) = omega arith in rw e (iterate-add f j k (f s))

module _ (visit : ℕ → List Float → Outcome × List Float) (results : ℕ) where
  pub step-closed : (s : State) → closed s ≡ true → step_by visit results s ≡ s
  unfolding step_by
  step-closed s e = rw e

  pub step-open : (s : State) → closed s ≡ false → step_by visit results s ≡ landed results s (visit (visits s) s.1)
  unfolding step_by
  step-open s e = rw e

  -- a closed state stays, whatever the budget
  pub run-closed : (k : ℕ) (s : State) → closed s ≡ true → iterate (step_by visit results) k s ≡ s
  unfolding iterate
  run-closed zero s e = refl
  run-closed (suc k) s e = rw (step-closed s e) (run-closed k s e)

  step-forth : (s : State) → (visits s ≤ visits (step_by visit results s)) × (visits (step_by visit results s) ≤ visits s + 1)
  unfolding step_by advanced_by
  step-forth s = go (closed s) refl
    where
      go : (b : Bool) → closed s ≡ b → (visits s ≤ visits (step_by visit results s)) × (visits (step_by visit results s) ≤ visits s + 1)
      go true e = rw e (omega arith)
      go false e = rw e (omega arith)

  -- no visit is taken back
  pub run-forth : (k : ℕ) (s : State) → visits s ≤ visits (iterate (step_by visit results) k s)
  unfolding iterate
  run-forth zero s = omega arith
  run-forth (suc k) s = let a = step-forth s in let b = run-forth k (step_by visit results s) in omega arith

  -- and no more are made than the budget allows
  pub run-most : (k : ℕ) (s : State) → visits (iterate (step_by visit results) k s) ≤ visits s + k
  unfolding iterate
  run-most zero s = omega arith
  run-most (suc k) s = let a = step-forth s in let b = run-most k (step_by visit results s) in omega arith

  -- a run is that of exactly the visits that it made
  pub run-exact : (k : ℕ) (s : State) → (j : ℕ) × (iterate (step_by visit results) k s ≡ iterate (step_by visit results) j s) × (visits (iterate (step_by visit results) k s) ≡ visits s + j)
  unfolding iterate advanced_by
  run-exact zero s = (0, refl, omega arith)
  run-exact (suc k) s = go (closed s) refl (run-exact k (step_by visit results s))
    where
      last : State
      last = iterate (step_by visit results) k (step_by visit results s)

      go : (b : Bool) → closed s ≡ b → (j : ℕ) × (last ≡ iterate (step_by visit results) j (step_by visit results s)) × (visits last ≡ visits (step_by visit results s) + j)
          → (j : ℕ) × (last ≡ iterate (step_by visit results) j s) × (visits last ≡ visits s + j)
      go true c h = let e = run-closed (suc k) s c in (0, e, omega (arith, ap visits e))
      go false c (j, e, v) = (suc j, e, omega (arith, v, ap visits (step-open s c)))

  -- two closed states of one run are the same
  pub same_end : (i j : ℕ) (s : State) → closed (iterate (step_by visit results) i s) ≡ true → closed (iterate (step_by visit results) j s) ≡ true
      → iterate (step_by visit results) i s ≡ iterate (step_by visit results) j s
  same_end i j s c d =
      let e : i + j ≡ j + i = omega arith in
      sym (run-closed j (iterate (step_by visit results) i s) c)
      ∙ sym (iterate-add (step_by visit results) i j s)
      ∙ ap (λ (k : ℕ). iterate (step_by visit results) k s) e
      ∙ iterate-add (step_by visit results) j i s
      ∙ run-closed i (iterate (step_by visit results) j s) d

-- A run as a loop makes it: what is left from a state on gives what the whole run gives.
module _ (visit : ℕ → List Float → Outcome × List Float) (results budget left : ℕ) (s₀ s : State) (ahead : iterate (step_by visit results) left s ≡ iterate (step_by visit results) budget s₀) where
  -- a closed state is the last, and so is one with nothing left
  pub run-stops : closed s ≡ true → s ≡ iterate (step_by visit results) budget s₀
  run-stops e = sym (run-closed visit results left s e) ∙ ahead

  pub run-spent : left ≡ 0 → s ≡ iterate (step_by visit results) budget s₀
  unfolding iterate
  run-spent e = rw e at ahead

  -- an open one goes on by a visit
  pub run_on : {s' : State} → 0 < left → closed s ≡ false → s' ≡ landed results s (visit (visits s) s.1) → iterate (step_by visit results) (left - 1) s' ≡ iterate (step_by visit results) budget s₀
  run_on h c e = ap (iterate (step_by visit results) (left - 1)) (e ∙ sym (step-open visit results s c)) ∙ iterate-next (step_by visit results) left s h ∙ ahead

-- no visit is taken back, from a position on
pub run-ahead : (visit : ℕ → List Float → Outcome × List Float) (results budget : ℕ) (from : Position) (ws out : List Float) {s : Progress} {ws' out' : List Float}
    → (s, ws', out') ≡ iterate (step_by visit results) budget (opening from, ws, out) → from.visits ≤ s.position.visits
run-ahead visit results budget from ws out e = rw (← e) at (run-forth visit results budget (opening from, ws, out))

-- where the last visit ends, one that leaves the position open leaves a visit to make
pub still-within : (visit : ℕ → List Float → Outcome × List Float) (all : ℕ) → ((k : ℕ) (ws : List Float) → k + 1 ≡ all → ended (visit k ws).0 ≡ true)
    → (s : Position) (ws : List Float) {o : Outcome} {ws' : List Float} {t : Progress} → s.visits < all → (o, ws') ≡ visit s.visits ws → t ≡ advanced_by s o
    → t.position.closed ≡ false → t.position.visits < all
unfolding advanced_by
still-within visit all ends s ws {o = o} h e a = rw a (λ c. go c (ltb (s.visits + 1) all) refl)
  where
    go : ended o ≡ false → (b : Bool) → ltb (s.visits + 1) all ≡ b → s.visits + 1 < all
    go c true t = ltb-true (s.visits + 1) all t
    go c false t = let f : all ≤ s.visits + 1 = ltb-false (s.visits + 1) all t in absurd (true≢false (sym (ends s.visits ws (omega arith)) ∙ ap (λ (x : Outcome × List Float). ended x.0) (sym e) ∙ c))

-- a visit, put together from what it gave, what closing made of the buffers and the position after it
pub landed-is : (results : ℕ) (s : State) {e : Outcome × List Float} {o : Outcome} {ws ws' out' : List Float} {t : Progress}
    → (o, ws) ≡ e → (ws', out') ≡ closing results o ws s.2 → t ≡ advanced_by s.0.position o → (t, ws', out') ≡ landed results s e
landed-is results s a b d = rw (← a, ← b, d)
