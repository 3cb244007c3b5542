-- Demand 3 of either calculation, on any model, root and inputs. Assumes nothing.
use mathlib.Core.Bool.{true}
use mathlib.Core.List.{List}
use mathlib.Core.Path.{◌≡◌}
use lib.ListN.{length}
use lib.Ieee.{Float}
use Rattle.refusals.specs.Refusals.{fine}
use Rattle.arm.specs.declared.model.Model.{Model}
use Rattle.calls.specs.Position.{Work, start_of}
use Rattle.calls.specs.Portions.{Call, divided_of, RefusesAll, Underway, Undivided}
use Rattle.calls.proofs.Portions.{underway, undivided}
use Rattle.forward_visits.specs.Inputs.{Inputs}
use Rattle.dynamics.specs.Calculation.{work_of}
use Rattle.dynamics.specs.declared.calculation.Calculation.{Calculation}
use Rattle.dynamics.proofs.Sound.{sound}

module _ (c : Calculation) (m : Model) (i : Inputs) (ws out : List Float) where
  abbrev work : Work
  work = work_of c m i

  pub work-underway : work.inputs (length ws) (length out) ≡ fine → (calls : List Call) → RefusesAll work calls (start_of work ws out) → Underway work ws out (divided_of work calls ws out)
  work-underway = underway work (sound c m i) ws out

  pub work-undivided : (calls : List Call) → RefusesAll work calls (start_of work ws out) → (divided_of work calls ws out).0.position.closed ≡ true → Undivided work ws out (divided_of work calls ws out)
  work-undivided = undivided work (sound c m i) ws out
