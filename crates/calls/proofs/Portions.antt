-- Portions compose: however the visits are divided, and whatever refused calls lie between, the end is that of the undivided call. Assumes nothing.
use mathlib.Core.Bool.{Bool, true, false, beq, true≢false}
use mathlib.Core.List.{List, [], ◌∷◌}
use mathlib.Core.Logic.{◌⊎◌, inl, inr, ⊎_elim}
use mathlib.Core.Path.{◌≡◌, refl, sym, ap, ◌∙◌}
use Prim.Native.Nat.{ℕ, zero, suc, ◌+◌, ◌<◌}
use native.Mathlib.Nat.{add-zero, sub-zero, eq-or-lt_of_le}
use native.Mathlib.Omega.{arith}
use borrow.Author.Tests.{eq-eqb, lt-leb}
use lib.ListN.{length, drop, take-append-drop}
use lib.Seq.{drop-drop}
use lib.Ieee.{Float}
use Rattle.std.specs.Prelude.{Ok, Err}
use Rattle.refusals.specs.Refusals.{Verdict, fine, plain_of, or_else}
use Rattle.refusals.specs.declared.Refusal.{Refusal}
use Rattle.refusals.proofs.Verdicts.{both-fine}
use Rattle.slots.specs.Slots.{cleared}
use Rattle.slots.proofs.Lengths.{length-cleared}
use Rattle.calls.specs.Position.{Work, State, Result, visits_of, fresh, shut, position_verdict, ended, advanced_by, closing, landed, step_of, iterate, opening, answer_by, begun_at, refused_at, ran, unless, start_of, checks_of, portion_of, whole_of}
use Rattle.calls.specs.Portions.{Sound, Lent, part, own, lent_of, back_in, Call, portion, other, start, whole, aside, answered, added, calls_from, divided_of, Refuses, RefusesAll, after, handed, held, Underway, Undivided}
use Rattle.calls.specs.declared.position.Outcome.{Outcome}
use Rattle.calls.specs.declared.position.Outcome.TheVariants.{Open, Accepted}
use Rattle.calls.specs.declared.position.Outcome.TheVariants as outcome
use Rattle.calls.specs.declared.position.Position.{Position}
use Rattle.calls.specs.declared.position.Progress.{Progress}
use Rattle.calls.proofs.Passed.{still_open}
use Rattle.calls.proofs.Steps.{visits, closed, iterate-add, step-open, run-closed, run-forth, run-most, run-exact, same_end}

beq-self : (b : Bool) → beq b b ≡ true
beq-self true = refl
beq-self false = refl

some-visit : (matrix : Bool) (n a : ℕ) → 0 < visits_of matrix n a
unfolding visits_of
some-visit true n a = omega arith
some-visit false n a = omega arith

-- ---- the visits of a calculation

module _ (w : Work) (sound : Sound w) where
  abbrev total : ℕ
  total = visits_of w.matrix w.n w.a

  -- the position of this calculation after k visits, open
  abbrev open_at : ℕ → Position
  open_at k = record { matrix = w.matrix; floating = w.floating; n = w.n; a = w.a; visits = k; closed = false }

  -- an open state after k visits, with a visit left and buffers of these lengths
  pub record At (s : State) (k l m : ℕ) : Type 0 where
    pub place : s.0 ≡ opening (open_at k)
    pub room : length s.1 ≡ l
    pub output : length s.2 ≡ m
    pub more : k < total

  -- a closed one
  pub record Ended (s : State) : Type 0 where
    pub closes : closed s ≡ true
    pub accepted : s.0.outcome ≡ Accepted → visits s ≡ total

  -- one visit closes, or leaves an open state
  step-at : (s : State) (k l m : ℕ) → At s k l m → Ended (step_of w s) ⊎ At (step_of w s) (k + 1) l m
  unfolding advanced_by ended closing
  step-at s k l m t =
      rw (step-open w.visit w.results s (ap (λ (p : Progress). p.position.closed) t.place))
      (go (w.visit (visits s) s.1) (sound.kept (visits s) s.1) (sound.ends (visits s) s.1) (sound.waits (visits s) s.1))
    where
      same : visits s ≡ k
      same = ap (λ (p : Progress). p.position.visits) t.place

      last : (visits s + 1 ≡ total) ⊎ (visits s + 1 < total)
      last = eq-or-lt_of_le (omega (arith, t.more, same))

      go : (e : Outcome × List Float) → length e.1 ≡ length s.1 → (visits s + 1 ≡ total → ended e.0 ≡ true) → (visits s + 1 < total → e.0 ≡ Accepted → ⊥)
          → Ended (landed w.results s e) ⊎ At (landed w.results s e) (k + 1) l m
      go (Open, ws) g f h = inr (record {
        place = ap (λ (p : Progress). advanced_by p.position Open) t.place;
        room = g ∙ t.room;
        output = t.output;
        more = ⊎_elim (λ e. absurd (true≢false (sym (f e)))) (λ e. omega (arith, same)) last;
      })
      go (Accepted, ws) g f h = inl (record { closes = refl; accepted = λ _. ⊎_elim (λ e. e) (λ e. absurd (h e refl)) last })
      go (outcome.Refused r, ws) g f h = inl (record { closes = refl; accepted = λ e. let z : ◌≡◌ {A = ℕ} 0 1 = cc in absurd (omega arith) })

  -- so many visits end closed, or at such a state
  run_at : (j : ℕ) (s : State) (k l m : ℕ) → At s k l m → Ended (iterate (step_of w) j s) ⊎ At (iterate (step_of w) j s) (k + j) l m
  unfolding iterate
  run_at zero s k l m t = inr (rw add-zero t)
  run_at (suc j) s k l m t =
      ⊎_elim
      (λ c. inl (rw (run-closed w.visit w.results j (step_of w s) c.closes) c))
      (λ u. let e : k + suc j ≡ k + 1 + j = omega arith in rw e (run_at j (step_of w s) (k + 1) l m u))
      (step-at s k l m t)

  module _ (l m : ℕ) (passed : w.inputs l m ≡ fine) where
    -- the checks pass at an open state, so a portion runs from it
    judged-open : (k : ℕ) → k < total → position_verdict w.matrix w.floating w.n w.a (open_at k) ≡ fine
    unfolding position_verdict plain_of or_else
    judged-open k h = simp (beq-self w.matrix, beq-self w.floating, eq-eqb w.n w.n refl, eq-eqb w.a w.a refl, lt-leb total k h)

    portion-open : (b : ℕ) (s : State) (k : ℕ) → At s k l m → portion_of w b s.0.position s.1 s.2 ≡ ran w b (open_at k) s.1 s.2
    unfolding portion_of or_else
    portion-open b s k t = rw (t.place, t.room, t.output, passed, judged-open k t.more)

-- ---- a refused call hands everything back

abbrev Untouched : Position → List Float → List Float → Result → Type 0
Untouched p ws out r = (e : Refusal) × (r ≡ (refused_at p e, ws, out))

back : (v : Verdict) (p : Position) (ws out : List Float) (r : Result) → (v ≡ fine → ⊥) → Untouched p ws out (unless v p ws out r)
back (Ok u) p ws out r f = absurd (f refl)
back (Err e) p ws out r f = (e, refl)

-- what was lent is where it was
lent_back : (l : Lent) (s : List Float) → back_in l s (lent_of l s) ≡ s
unfolding lent_of back_in
lent_back (part from count) s = rw (← drop-drop count from s, take-append-drop count (drop from s), take-append-drop from s)
lent_back (own t) s = refl

aside-back : (v : Verdict) (p : Position) (ws out : Lent) (r x : Result) → (v ≡ fine → ⊥)
    → Untouched r.0.position r.1 r.2 (aside (λ s t. unless v p s t x) ws out r)
unfolding refused_at
aside-back (Ok u) p ws out r x f = absurd (f refl)
aside-back (Err e) p ws out r x f = (e, rw (lent_back ws r.1, lent_back out r.2))

module _ (w : Work) where
  -- a portion on a closed position is refused
  portion-closed : (b : ℕ) (p : Position) (ws out : List Float) → p.closed ≡ true → Untouched p ws out (portion_of w b p ws out)
  unfolding portion_of
  portion-closed b p ws out c =
      back (checks_of w p (length ws) (length out)) p ws out (ran w b p ws out)
      (λ e. absurd (true≢false (sym c ∙ (still_open w.matrix w.floating w.n w.a p (both-fine _ _ e).1).0)))

  -- and so is any call that may lie between the portions
  call-refused : (c : Call) (r : Result) → Refuses c r → ((b : ℕ) × (c ≡ portion b)) ⊎ Untouched r.0.position r.1 r.2 (answered w c r)
  unfolding Refuses answered portion_of start_of whole_of
  call-refused (portion b) r h = inl (b, refl)
  call-refused (other v b p ws out) r h = inr (aside-back (checks_of v p (length (lent_of ws r.1)) (length (lent_of out r.2))) p ws out r _ h)
  call-refused (start v ws out) r h = inr (aside-back (v.inputs (length (lent_of ws r.1)) (length (lent_of out r.2))) (shut v) ws out r _ h)
  call-refused (whole v ws out) r h = inr (aside-back (v.inputs (length (lent_of ws r.1)) (length (lent_of out r.2))) (shut v) ws out r _ h)

-- and on a closed position nothing is added
added-closed : (r s : Result) → r.0.position.closed ≡ true → Untouched r.0.position r.1 r.2 s → added r s ≡ r
unfolding refused_at
added-closed r s c (x, e) = rw (e, c, add-zero)

-- ---- calls in a row

-- the calls so far have brought a calculation to a state
pub record Stands (r : Result) (s : State) : Type 0 where
  pub hands : handed r ≡ held s
  pub count : r.0.visits ≡ visits s
  pub outcome : closed s ≡ true → r.0.outcome ≡ s.0.outcome

closed-alike : {r : Result} {s : State} → Stands r s → r.0.position.closed ≡ closed s
closed-alike t = ap (λ (y : Position × List Float × List Float). y.0.closed) t.hands

refused-stands : (r x : Result) (s : State) → Stands r s → Untouched r.0.position r.1 r.2 x → Stands (added r x) s
unfolding refused_at
refused-stands r x s t (y, e) = record {
  hands = ap handed e ∙ t.hands;
  count = omega (arith, t.count, ap (λ (y : Result). y.0.visits) e);
  outcome = λ c. rw (closed-alike t ∙ c) (t.outcome c);
}

-- all that they answered, where that state is closed
stands-closed : (r : Result) (s : State) → Stands r s → closed s ≡ true → r ≡ (record { position = s.0.position; outcome = s.0.outcome; visits = visits s }, s.1, s.2)
stands-closed r s t c = λ i. (record { position = (t.hands i).0; outcome = t.outcome c i; visits = t.count i }, (t.hands i).1, (t.hands i).2)

module _ (w : Work) (sound : Sound w) (l m : ℕ) (passed : w.inputs l m ≡ fine) where
  -- where a run stands after k visits, or ended before
  abbrev Reached : State → ℕ → Type 0
  Reached s k = Ended w sound s ⊎ At w sound s k l m

  module _ (r : Result) (s : State) (k : ℕ) (t : Stands r s) where
    portion-stands : (b : ℕ) → Reached s k → Stands (added r (portion_of w b r.0.position r.1 r.2)) (iterate (step_of w) b s)
    unfolding answer_by
    portion-stands b (inl c) =
        rw (run-closed w.visit w.results b s c.closes)
        (refused-stands r _ s t (portion-closed w b r.0.position r.1 r.2 (closed-alike t ∙ c.closes)))
    portion-stands b (inr u) =
        rw (ap (λ (y : Position × List Float × List Float). portion_of w b y.0 y.1 y.2) t.hands ∙ portion-open w sound l m passed b s k u ∙ ap from (sym u.place))
        (record {
          hands = refl;
          count = omega (arith, t.count, run-forth w.visit w.results b s);
          outcome = λ c. rw (closed-alike t ∙ ap (λ (p : Progress). p.position.closed) u.place);
        })
      where
        from : Progress → Result
        from p = let x = iterate (step_of w) b (p, s.1, s.2) in (answer_by p.position x.0, x.1, x.2)

    call-stands : (c : Call) → Refuses c r → Reached s k → (b : ℕ) × Stands (added r (answered w c r)) (iterate (step_of w) b s)
    unfolding answered iterate
    call-stands c h e =
        ⊎_elim
        (λ (d : (b : ℕ) × (c ≡ portion b)). (d.0, rw d.1 (portion-stands d.0 e)))
        (λ u. (0, refused-stands r (answered w c r) s t u))
        (call-refused w c r h)

module _ (w : Work) (sound : Sound w) (ws out : List Float) (passed : w.inputs (length ws) (length out) ≡ fine) where
  abbrev first : State
  first = (opening (fresh w), cleared ws, out)

  reached : (j : ℕ) → Reached w sound (length ws) (length out) passed (after w j ws out) j
  reached j = ⊎_elim (λ c. inl c) (λ u. let e : 0 + j ≡ j = omega arith in inr (rw e at u)) (run_at w sound j first 0 (length ws) (length out) first-at)
    where
      first-at : At w sound first 0 (length ws) (length out)
      first-at = record { place = refl; room = length-cleared ws; output = refl; more = some-visit w.matrix w.n w.a }

  calls-stand : (calls : List Call) (r : Result) (j : ℕ) → RefusesAll w calls r → Stands r (after w j ws out) → (i : ℕ) × Stands (calls_from w calls r) (after w i ws out)
  unfolding calls_from RefusesAll
  calls-stand [] r j h t = (j, t)
  calls-stand (c ∷ more) r j h t =
      let d = call-stands w sound (length ws) (length out) passed r (after w j ws out) j t c h.0 (reached j) in
      calls-stand more (added r (answered w c r)) (j + d.0) h.1 (rw (iterate-add (step_of w) j d.0 first) d.1)

  -- the undivided call ends closed
  whole-ended : Ended w sound (after w (total w sound) ws out)
  whole-ended = ⊎_elim (λ c. c) (λ u. let h = u.more in absurd (omega arith)) (reached (total w sound))

  ends-undivided : (r : Result) (j : ℕ) → Stands r (after w j ws out) → r.0.position.closed ≡ true → Undivided w ws out r
  unfolding whole_of answer_by
  ends-undivided r j t c = record { same = same; before = before; closes = closes; accepted = accepted }
    where
      end : after w j ws out ≡ after w (total w sound) ws out
      end = same_end w.visit w.results j (total w sound) first (sym (closed-alike t) ∙ c) whole-ended.closes

      ended_so : Stands r (after w (total w sound) ws out)
      ended_so = rw end at t

      same : r ≡ whole_of w ws out
      same = stands-closed r (after w (total w sound) ws out) ended_so whole-ended.closes ∙ rw (passed, sub-zero)

      before : (k : ℕ) → k < r.0.visits → closed (after w k ws out) ≡ false
      before k h = go (closed (after w k ws out)) refl
        where
          go : (b : Bool) → closed (after w k ws out) ≡ b → b ≡ false
          go true e =
              let d = ap visits (same_end w.visit w.results k (total w sound) first e whole-ended.closes) in
              absurd (omega (arith, ended_so.count, run-most w.visit w.results k first))
          go false e = refl

      closes : 0 < r.0.visits → closed (after w r.0.visits ws out) ≡ true
      closes h =
          let (k, e, v) = run-exact w.visit w.results (total w sound) first in
          let f : r.0.visits ≡ k = omega (arith, ended_so.count, v) in
          rw f (sym (ap closed e) ∙ whole-ended.closes)

      accepted : r.0.outcome ≡ Accepted → r.0.visits ≡ total w sound
      accepted e = ended_so.count ∙ whole-ended.accepted (sym (ended_so.outcome whole-ended.closes) ∙ e)

  stands : (calls : List Call) → RefusesAll w calls (start_of w ws out) → (j : ℕ) × Stands (divided_of w calls ws out) (after w j ws out)
  unfolding start_of begun_at iterate
  stands calls h = calls-stand calls (start_of w ws out) 0 h (rw passed (record { hands = refl; count = refl; outcome = λ b. absurd (true≢false (sym b)) }))

  started-undivided : (calls : List Call) → RefusesAll w calls (start_of w ws out) → (divided_of w calls ws out).0.position.closed ≡ true → Undivided w ws out (divided_of w calls ws out)
  started-undivided calls h c = let d = stands calls h in ends-undivided (divided_of w calls ws out) d.0 d.1 c

  -- DEMAND 3, under way: after k visits in all, position, workspace and output are the definition's after k
  pub underway : (calls : List Call) → RefusesAll w calls (start_of w ws out) → Underway w ws out (divided_of w calls ws out)
  underway calls h =
      let d = stands calls h in
      let (k, e, v) = run-exact w.visit w.results d.0 first in
      let f : (divided_of w calls ws out).0.visits ≡ k = omega (arith, d.1.count, v) in
      d.1.hands ∙ ap held e ∙ rw f

-- ---- a start that was refused

-- on a closed position every call is refused, and nothing is added
closed-stays : (w : Work) (calls : List Call) (r : Result) → r.0.position.closed ≡ true → RefusesAll w calls r → calls_from w calls r ≡ r
unfolding calls_from RefusesAll answered
closed-stays w [] r c h = refl
closed-stays w (d ∷ more) r c h =
    let e = added-closed r (answered w d r) c (⊎_elim (λ (p : (b : ℕ) × (d ≡ portion b)). rw p.1 (portion-closed w p.0 r.0.position r.1 r.2 c)) (λ u. u) (call-refused w d r h.0)) in
    ap (calls_from w more) e ∙ closed-stays w more r c (rw e at h.1)

refused-undivided : (w : Work) (ws out : List Float) (r : Refusal) → w.inputs (length ws) (length out) ≡ Err r → Undivided w ws out (start_of w ws out)
unfolding start_of whole_of refused_at
refused-undivided w ws out r e =
    rw e (record { same = rw e; before = λ k h. absurd (omega arith); closes = λ h. absurd (omega arith); accepted = λ a. let z : ◌≡◌ {A = ℕ} 0 1 = cc in absurd (omega arith) })

-- DEMAND 3: once the position is closed, portions of any budgets, with any refused calls between them, have answered together what the undivided
-- call answers on the same buffers, and left what it leaves
pub undivided : (w : Work) → Sound w → (ws out : List Float) (calls : List Call) → RefusesAll w calls (start_of w ws out) → (divided_of w calls ws out).0.position.closed ≡ true
    → Undivided w ws out (divided_of w calls ws out)
unfolding start_of refused_at
undivided w sound ws out calls h c = go (w.inputs (length ws) (length out)) refl
  where
    go : (v : Verdict) → w.inputs (length ws) (length out) ≡ v → Undivided w ws out (divided_of w calls ws out)
    go (Ok u) e = started-undivided w sound ws out e calls h c
    go (Err r) e = rw (closed-stays w calls (start_of w ws out) (rw e) h) (refused-undivided w ws out r e)
