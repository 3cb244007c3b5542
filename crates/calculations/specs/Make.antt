-- A calculation made on lent buffers: the visits that each call reports, and what the last one answers and leaves. Definitions only.
use Rattle.std.specs.Prelude.{cond, List, [], ◌∷◌, ℕ, ◌-◌, take, Float}
use Rattle.calls.specs.Position.{Work, Result, iterate, begun_at, start_of, portion_of, whole_of}
use Rattle.calculations.specs.declared.make.Last.{Last}
use Rattle.calculations.specs.declared.make.How.{How}
use Rattle.calculations.specs.declared.make.How.TheVariants.{Times, From}

-- the visits that each call reported, and the last result
abbrev pub Made : Type 0
Made = List ℕ × Result

-- portions in a row, each on the position and the buffers that the one before handed back
unfoldable pub portions_from : Work → List ℕ → Result → Result
portions_from w [] r = r
portions_from w (budget ∷ more) r = portions_from w more (portion_of w budget r.0.position r.1 r.2)

-- what each of them reports
unfoldable pub counts_from : Work → List ℕ → Result → List ℕ
counts_from w [] r = []
counts_from w (budget ∷ more) r = let s = portion_of w budget r.0.position r.1 r.2 in s.0.visits ∷ counts_from w more s

abbrev pub in_portions : Work → List ℕ → Result → Made
in_portions w budgets r = (counts_from w budgets r, portions_from w budgets r)

-- the undivided call
abbrev pub undivided : Result → Made
undivided r = (r.0.visits ∷ [], r)

-- the portions behind a start; what follows a refused one, which is closed, is not made
abbrev pub begun_in : Work → List ℕ → Result → Made
begun_in w budgets r = cond r.0.position.closed ([], r) (in_portions w budgets r)

-- ONCE: with no budget the undivided call, else a start and a portion for each
unfoldable pub once_of : Work → List ℕ → List Float → List Float → Made
once_of w [] ws out = undivided (whole_of w ws out)
once_of w (budget ∷ more) ws out = begun_in w (budget ∷ more) (start_of w ws out)

-- once more, on the buffers as they are left
abbrev pub again_of : Work → List ℕ → Made → Made
again_of w budgets d = once_of w budgets d.1.1 d.1.2

-- COUNT TIMES
unfoldable pub times_of : Work → List ℕ → ℕ → List Float → List Float → Made
times_of w budgets count ws out = iterate (again_of w budgets) (count - 1) (once_of w budgets ws out)

-- so many times, or the portions alone
abbrev pub made_of : How → Work → List ℕ → List Float → List Float → Made
made_of (Times count) w budgets ws out = times_of w budgets count ws out
made_of (From p) w budgets ws out = in_portions w budgets (begun_at p, ws, out)

-- ---- what the functions have made
abbrev pub made_by : Last → List ℕ → List Float → List Float → Made
made_by l counts ws out = (take l.counts counts, (l.answer, ws, out))
