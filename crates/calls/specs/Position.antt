-- A calculation in visits: where it stands, its portions, how it closes (document 01, "Visits"). Definitions only.
use Rattle.std.specs.Prelude.{Bool, true, false, not, cond, ◌&&◌, ◌||◌, Ok, Err, List, ℕ, zero, suc, ◌+◌, ◌-◌, eqb, leb, length, Float}
use Rattle.std.specs.Bool.{beq}
use Rattle.refusals.specs.Refusals.{Verdict, plain_of, or_else}
use Rattle.refusals.specs.declared.Refusal.{Refusal}
use Rattle.slots.specs.Slots.{cleared, part_of}
use Rattle.calls.specs.declared.position.Outcome.{Outcome}
use Rattle.calls.specs.declared.position.Outcome.TheVariants.{Open, Accepted, Refused}
use Rattle.calls.specs.declared.position.Position.{Position}
use Rattle.calls.specs.declared.position.Progress.{Progress}
use Rattle.calls.specs.declared.position.Answer.{Answer}

-- the whole count of visits: 2n+a+1 for the matrix, 3n+1 for forward dynamics
unfoldable pub visits_of : Bool → ℕ → ℕ → ℕ
visits_of matrix n a = cond matrix (n + n + a + 1) (n + n + n + 1)

-- A calculation on one model and one set of inputs.
pub record Work : Type 0 where
  pub matrix : Bool
  pub floating : Bool
  pub n : ℕ
  pub a : ℕ
  -- the checks to 22, for a workspace and an output of these lengths
  pub inputs : ℕ → ℕ → Verdict
  -- visit k on any workspace numbers
  pub visit : ℕ → List Float → Outcome × List Float
  -- where in the workspace the results wait for acceptance
  pub results : ℕ

-- ---- positions

abbrev pub fresh_at : Bool → Bool → ℕ → ℕ → Position
fresh_at matrix floating n a = record { matrix = matrix; floating = floating; n = n; a = a; visits = 0; closed = false }

abbrev pub fresh : Work → Position
fresh w = fresh_at w.matrix w.floating w.n w.a

-- what a refused start gives
abbrev pub shut_at : Bool → Bool → Position
shut_at matrix floating = record { matrix = matrix; floating = floating; n = 0; a = 0; visits = 0; closed = true }

abbrev pub shut : Work → Position
shut w = shut_at w.matrix w.floating

-- 23: of another calculation, root mode, n or a, or open with the whole count of visits or more; 24: already closed
unfoldable pub position_verdict : Bool → Bool → ℕ → ℕ → Position → Verdict
position_verdict matrix floating n a p =
    or_else (plain_of 23 ((not (beq p.matrix matrix) || not (beq p.floating floating)) || (not (eqb p.n n) || not (eqb p.a a))))
    (or_else (plain_of 23 (not p.closed && leb (visits_of matrix n a) p.visits))
    (plain_of 24 p.closed))

-- ---- one visit

-- a calculation's place, its workspace and its output
abbrev pub State : Type 0
State = Progress × List Float × List Float

-- acceptance and a refusal close the position
unfoldable pub ended : Outcome → Bool
ended Open = false
ended Accepted = true
ended (Refused r) = true

unfoldable pub advanced_by : Position → Outcome → Progress
advanced_by p o =
    record {
      position = record { matrix = p.matrix; floating = p.floating; n = p.n; a = p.a; visits = p.visits + 1; closed = ended o };
      outcome = o;
    }

-- Workspace and output after a visit, where the results wait at `at`: acceptance writes the whole output, a refusal keeps it, either makes the
-- whole workspace +0.0.
unfoldable pub closing : ℕ → Outcome → List Float → List Float → List Float × List Float
closing at Open ws out = (ws, out)
closing at Accepted ws out = (cleared ws, part_of ws at (length out))
closing at (Refused r) ws out = (cleared ws, out)

-- what a visit's outcome and its workspace make of a state
abbrev pub landed : ℕ → State → Outcome × List Float → State
landed results s e = let b = closing results e.0 e.1 s.2 in (advanced_by s.0.position e.0, b.0, b.1)

-- the next visit; a closed state stays
unfoldable pub step_by : (ℕ → List Float → Outcome × List Float) → ℕ → State → State
step_by visit results s = cond s.0.position.closed s (landed results s (visit s.0.position.visits s.1))

abbrev pub step_of : Work → State → State
step_of w s = step_by w.visit w.results s

unfoldable pub iterate : {S : Type 0} → (S → S) → ℕ → S → S
iterate f zero s = s
iterate f (suc k) s = iterate f k (f s)

-- ---- the calls

abbrev pub Result : Type 0
Result = Answer × List Float × List Float

abbrev pub opening : Position → Progress
opening p = record { position = p; outcome = Open }

-- the count is the distance between the positions
unfoldable pub answer_by : Position → Progress → Answer
answer_by p s = record { position = s.position; outcome = s.outcome; visits = s.position.visits - p.visits }

unfoldable pub begun_at : Position → Answer
begun_at p = record { position = p; outcome = Open; visits = 0 }

unfoldable pub refused_at : Position → Refusal → Answer
refused_at p r = record { position = p; outcome = Refused r; visits = 0 }

-- at most so many visits from a position
abbrev pub ran : Work → ℕ → Position → List Float → List Float → Result
ran w budget p ws out = let s = iterate (step_of w) budget (opening p, ws, out) in (answer_by p s.0, s.1, s.2)

-- where the checks refuse, the position comes back, no buffer changes and no visit is made
abbrev pub unless : Verdict → Position → List Float → List Float → Result → Result
unless (Ok u) p ws out r = r
unless (Err e) p ws out r = (refused_at p e, ws, out)

-- a start makes all checks to 22, makes the workspace +0.0 and gives position 0
unfoldable pub start_of : Work → List Float → List Float → Result
start_of w ws out = unless (w.inputs (length ws) (length out)) (shut w) ws out (begun_at (fresh w), cleared ws, out)

-- a portion repeats them and judges the position
abbrev pub checks_of : Work → Position → ℕ → ℕ → Verdict
checks_of w p ws out = or_else (w.inputs ws out) (position_verdict w.matrix w.floating w.n w.a p)

-- and makes as many visits as it may
unfoldable pub portion_of : Work → ℕ → Position → List Float → List Float → Result
portion_of w budget p ws out = unless (checks_of w p (length ws) (length out)) p ws out (ran w budget p ws out)

-- the undivided call starts and makes all visits
unfoldable pub whole_of : Work → List Float → List Float → Result
whole_of w ws out = unless (w.inputs (length ws) (length out)) (shut w) ws out (ran w (visits_of w.matrix w.n w.a) (fresh w) (cleared ws) out)
