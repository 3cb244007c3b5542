-- A calculation divided into portions, with refused calls between them (document 01, "Visits"). Definitions only.
use Rattle.std.specs.Prelude.{false, true, cond, List, [], ◌∷◌, ◌++◌, ◌≡◌, ℕ, ◌+◌, ◌<◌, length, take, drop, Float}
use Prim.{Unit}
use Rattle.refusals.specs.Refusals.{Verdict, fine}
use Rattle.slots.specs.Slots.{cleared}
use Rattle.calls.specs.Position.{Work, State, Result, visits_of, fresh, ended, step_of, iterate, opening, checks_of, start_of, portion_of, whole_of}
use Rattle.calls.specs.declared.position.Outcome.TheVariants.{Accepted}
use Rattle.calls.specs.declared.position.Position.{Position}

-- a calculation whose visits keep the workspace's length, whose last visit closes the position, and of which no earlier one accepts
pub record Sound (w : Work) : Type 0 where
  pub kept : (k : ℕ) (ws : List Float) → length (w.visit k ws).1 ≡ length ws
  pub ends : (k : ℕ) (ws : List Float) → k + 1 ≡ visits_of w.matrix w.n w.a → ended (w.visit k ws).0 ≡ true
  pub waits : (k : ℕ) (ws : List Float) → k + 1 < visits_of w.matrix w.n w.a → (w.visit k ws).0 ≡ Accepted → ⊥

-- ---- what a call is lent

-- for a buffer: so many numbers of the one in hand, from a place on (`part from count`), or a buffer of its own
pub data Lent : Type 0 where
  part : ℕ → ℕ → Lent
  own : List Float → Lent

-- the numbers lent, where s is in hand
unfoldable pub lent_of : Lent → List Float → List Float
lent_of (part from count) s = take count (drop from s)
lent_of (own t) s = t

-- the buffer in hand, which was s, once the lent one holds t
unfoldable pub back_in : Lent → List Float → List Float → List Float
back_in (part from count) s t = take from s ++ (t ++ drop (from + count) s)
back_in (own u) s t = s

-- ---- calls in a row

-- One of the calls after a start: a portion of the calculation, with its budget, on the position and the buffers in hand; or, on a workspace and
-- an output lent to it, a portion (on a position of its own), a start or an undivided call of any calculation, this one too.
pub data Call : Type 0 where
  portion : ℕ → Call
  other : Work → ℕ → Position → Lent → Lent → Call
  start : Work → Lent → Lent → Call
  whole : Work → Lent → Lent → Call

-- a call on what is lent to it: the position in hand stays, and what it left in the lent buffers comes back
abbrev pub aside : (List Float → List Float → Result) → Lent → Lent → Result → Result
aside call ws out r =
    let s = call (lent_of ws r.1) (lent_of out r.2) in
    (record { position = r.0.position; outcome = s.0.outcome; visits = s.0.visits }, back_in ws r.1 s.1, back_in out r.2 s.2)

-- a call, with this position and these buffers in hand
unfoldable pub answered : Work → Call → Result → Result
answered w (portion budget) r = portion_of w budget r.0.position r.1 r.2
answered w (other v budget p ws out) r = aside (portion_of v budget p) ws out r
answered w (start v ws out) r = aside (start_of v) ws out r
answered w (whole v ws out) r = aside (whole_of v) ws out r

-- what the calls so far and the next one answer together: their visits add up, and the outcome is that of the call that closed the position
abbrev pub added : Result → Result → Result
added r s = (
  record {
    position = s.0.position;
    outcome = cond r.0.position.closed r.0.outcome s.0.outcome;
    visits = r.0.visits + s.0.visits;
  },
  s.1,
  s.2,
)

-- each call, with what the one before left in hand
unfoldable pub calls_from : Work → List Call → Result → Result
calls_from w [] r = r
calls_from w (c ∷ more) r = calls_from w more (added r (answered w c r))

abbrev pub divided_of : Work → List Call → List Float → List Float → Result
divided_of w calls ws out = calls_from w calls (start_of w ws out)

-- a check refuses the lengths of the buffers lent
abbrev pub Barred : (ℕ → ℕ → Verdict) → Lent → Lent → Result → Type 0
Barred check ws out r = check (length (lent_of ws r.1)) (length (lent_of out r.2)) ≡ fine → ⊥

-- 9 to 24 refuse a call that is not a portion of the calculation on what is in hand
unfoldable pub Refuses : Call → Result → Type 0
Refuses (portion budget) r = Unit {0}
Refuses (other v budget p ws out) r = Barred (checks_of v p) ws out r
Refuses (start v ws out) r = Barred v.inputs ws out r
Refuses (whole v ws out) r = Barred v.inputs ws out r

-- and so every such call in a row
unfoldable pub RefusesAll : Work → List Call → Result → Type 0
RefusesAll w [] r = Unit {0}
RefusesAll w (c ∷ more) r = Refuses c r × RefusesAll w more (added r (answered w c r))

-- ---- where they stand, and how they end

-- the calculation after k visits
abbrev pub after : Work → ℕ → List Float → List Float → State
after w k ws out = iterate (step_of w) k (opening (fresh w), cleared ws, out)

-- the position and the buffers that a call hands back, and those of a state
abbrev pub handed : Result → Position × List Float × List Float
handed r = (r.0.position, r.1, r.2)

abbrev pub held : State → Position × List Float × List Float
held s = (s.0.position, s.1, s.2)

-- calls in a row that have reported k visits in all have come to the definition's state after k
abbrev pub Underway : Work → List Float → List Float → Result → Type 0
Underway w ws out r = handed r ≡ held (after w r.0.visits ws out)

-- calls in a row that have ended as the undivided call does
pub record Undivided (w : Work) (ws out : List Float) (r : Result) : Type 0 where
  -- position, outcome, visits, workspace and output
  pub same : r ≡ whole_of w ws out
  -- the last of the visits is the one that closed the position
  pub before : (k : ℕ) → k < r.0.visits → (after w k ws out).0.position.closed ≡ false
  pub closes : 0 < r.0.visits → (after w r.0.visits ws out).0.position.closed ≡ true
  -- acceptance comes after the whole count
  pub accepted : r.0.outcome ≡ Accepted → r.0.visits ≡ visits_of w.matrix w.n w.a
