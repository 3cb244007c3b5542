-- The undivided call by its stages: every visit below the root's leaves it open, and the root's closes it. Assumes nothing.
use mathlib.Core.Bool.{Bool, false}
use mathlib.Core.List.{List}
use mathlib.Core.Path.{◌≡◌, refl, sym, ap, ap₂, ◌∙◌}
use Prim.Native.Nat.{ℕ, zero, suc, ◌+◌, ◌-◌, ◌≤◌, ◌<◌}
use native.Mathlib.Numerals.{add-one}
use native.Mathlib.Omega.{arith}
use borrow.Author.Tests.{ne_eqb, lt-ltb, le-ltb}
use lib.Ieee.{Float}
use Rattle.numbers.specs.declared.quaternion.Quaternion.{Quaternion}
use Rattle.arm.specs.declared.model.Model.{Model}
use Rattle.calls.specs.Position.{State, fresh_at, opening, ended, advanced_by, closing, landed, step_by, iterate}
use Rattle.calls.specs.declared.plan.Plan.{Plan}
use Rattle.calls.specs.declared.position.Outcome.{Outcome}
use Rattle.calls.specs.declared.position.Outcome.TheVariants.{Open}
use Rattle.calls.specs.declared.position.Position.{Position}
use Rattle.calls.proofs.Steps.{iterate-add, step-open}
use Rattle.matrix_visits.specs.Kernel.{begun_of, joint_visit, root_visit, visit_of}
use Rattle.matrix_visits.proofs.Stages.{stage}

module _ (p : Plan) (r : Quaternion) (m : Model) (q : List Float) where
  -- how many visits come before the root's
  abbrev pub last : ℕ
  last = p.n + p.n + (p.side - p.lead)

  -- the workspace after k visits
  pub raw : ℕ → List Float → List Float
  raw zero ws = ws
  raw (suc k) ws = (visit_of p r m q k (raw k ws)).1

  visit-joint : (k : ℕ) (s : List Float) → k < last → visit_of p r m q k s ≡ (Open, joint_visit p r m q k (begun_of p m.links k s))
  unfolding visit_of
  visit-joint k s h = rw (lt-ltb k last h)

  visit-root : (s : List Float) → visit_of p r m q last s ≡ root_visit p r (begun_of p m.links last s)
  unfolding visit_of
  visit-root s = rw (le-ltb last last (omega arith))

  -- only the first visit begins
  begun-later : (k : ℕ) (s : List Float) → begun_of p m.links (suc k) s ≡ s
  unfolding begun_of
  begun-later k s = rw (ne_eqb (suc k) 0 (λ e. omega arith))

  raw-stage : (k : ℕ) (ws : List Float) → k ≤ last → begun_of p m.links k (raw k ws) ≡ stage p r m q k ws
  unfolding raw stage
  raw-stage zero ws h = refl
  raw-stage (suc k) ws h =
      begun-later k _ ∙ ap (λ (e : Outcome × List Float). e.1) (visit-joint k (raw k ws) h) ∙ ap (joint_visit p r m q k) (raw-stage k ws (omega arith))

  module _ (results : ℕ) (ma fl : Bool) (n a : ℕ) (ws out : List Float) where
    abbrev step : State → State
    step = step_by (visit_of p r m q) results

    abbrev open_at : ℕ → Position
    open_at k = record { matrix = ma; floating = fl; n = n; a = a; visits = k; closed = false }

    abbrev state_by : ℕ → List Float → State
    state_by k s = (opening (open_at k), s, out)

    abbrev state : ℕ → State
    state k = state_by k (raw k ws)

    next : (k : ℕ) → iterate step (suc k) (state 0) ≡ step (iterate step k (state 0))
    unfolding iterate
    next k = ap (λ (x : ℕ). iterate step x (state 0)) (sym (add-one k)) ∙ iterate-add step k 1 (state 0)

    run-open : (k : ℕ) → k ≤ last → iterate step k (state 0) ≡ state k
    unfolding iterate raw advanced_by ended closing
    run-open zero h = refl
    run-open (suc k) h =
        let v = visit-joint k (raw k ws) h in
        next k ∙ ap step (run-open k (omega arith)) ∙ step-open (visit_of p r m q) results (state k) refl ∙ ap (landed results (state k)) v
        ∙ ap₂ state_by (add-one k) (ap (λ (e : Outcome × List Float). e.1) (sym v))

    -- the whole run
    pub run-whole : iterate step (suc last) (opening (fresh_at ma fl n a), ws, out) ≡ landed results (state last) (root_visit p r (stage p r m q last ws))
    unfolding raw
    run-whole =
        next last ∙ ap step (run-open last (omega arith)) ∙ step-open (visit_of p r m q) results (state last) refl
        ∙ ap (landed results (state last)) (visit-root (raw last ws) ∙ ap (root_visit p r) (raw-stage last ws (omega arith)))
