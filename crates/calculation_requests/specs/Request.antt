-- The requests of the four calculations, of the words behind the first. Assumes nothing.
use Rattle.std.specs.Prelude.{Bool, false, cond, ◌||◌, List, ℕ, eqb, ltb, length}
use Rattle.words.specs.Read.{Reader, give, fail, ◌>>=◌, number}
use Rattle.arm.specs.declared.model.Model.{Model}
use Rattle.calculations.specs.declared.make.How.{How}
use Rattle.calculations.specs.declared.make.How.TheVariants.{Times, From}
use Rattle.readings.specs.declared.read.Kind.{Kind}
use Rattle.readings.specs.declared.read.Lent.{Lent}
use Rattle.forward_visits.specs.Inputs.{Inputs}
use Rattle.dynamics.specs.declared.calculation.Calculation.{Calculation}
use Rattle.dynamics.specs.Calculation.{work_of}
use Rattle.calculations.specs.Make.{Made, made_of}
use Rattle.readings.specs.Lent.{ones}
use Rattle.readings.specs.Read.{Lengths, lengths_by, kind, calculation, inputs, lengths, position}
use Rattle.writings.specs.Write.{made_text}

abbrev pub made_line : Made → List ℕ
made_line d = made_text d.1.0.outcome d.0 d.1.1 d.1.2

-- a position is handed in, and no portion is asked
abbrev pub idle_by : How → ℕ → Bool
idle_by (Times count) budgets = false
idle_by (From p) budgets = eqb budgets 0

-- what is handed in: the root's numbers, the inputs, what is lent, and the budgets
abbrev pub Task : Type 0
Task = Calculation × Inputs × Lengths

unfoldable pub task : How → Kind → Reader Task
task how k = do
  c ← calculation k
  i ← inputs c
  l ← lengths
  cond (idle_by how (length l.budgets)) fail (give (c, i, l))

unfoldable pub calculate_request : Model → How → Kind → Reader (List ℕ)
calculate_request m how k = do
  t ← task how k
  give (made_line (made_of how (work_of t.0 m t.1) t.2.budgets (ones t.2.ws) (ones t.2.out)))

-- COUNT REQUEST
unfoldable pub times : Reader (How × Kind)
times = do
  count ← number
  k ← kind
  cond (eqb count 0 || ltb 1000000 count) fail (give (Times count, k))

unfoldable pub repeat_request : Model → Reader (List ℕ)
repeat_request m = do
  r ← times
  calculate_request m r.0 r.1

-- CALCULATION ROOT N A VISITS CLOSED REQUEST
unfoldable pub from : Reader (How × Kind)
from = do
  p ← position
  k ← kind
  give (From p, k)

unfoldable pub resume_request : Model → Reader (List ℕ)
resume_request m = do
  r ← from
  calculate_request m r.0 r.1

-- ---- what the function has read
abbrev pub task_by : Calculation × Lent → Inputs → List ℕ → Task
task_by t i budgets = (t.0, i, lengths_by t.1 budgets)
