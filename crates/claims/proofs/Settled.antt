-- What a visit may change, of either calculation, on any model, root and inputs. Assumes nothing.
use mathlib.Core.Bool.{false}
use mathlib.Core.List.{List}
use mathlib.Core.Path.{◌≡◌}
use Prim.Native.Nat.{ℕ, ◌≤◌, ◌<◌}
use lib.ListN.{length, get_or}
use lib.Ieee.{Float, nan}
use Rattle.numbers.specs.Double.{0·0}
use Rattle.slots.specs.Parts.{Clear}
use Rattle.arm.specs.declared.model.Model.{Model}
use Rattle.articulated.specs.Root.{root_velocity}
use Rattle.calls.specs.Places.{Tabled, Rests}
use Rattle.calls.specs.Plan.{plan_of}
use Rattle.calls.specs.Portions.{after}
use Rattle.calls.specs.Position.{Work}
use Rattle.calls.proofs.Places.{stays, never}
use Rattle.matrix_visits.proofs.Places.{keeps}
use Rattle.mass_matrix.specs.MassMatrix.{mass_matrix, floats, rotation_of}
use Rattle.forward_visits.proofs.Places.{keeps as forward-keeps}
use Rattle.forward_dynamics.specs.ForwardDynamics.{forward_dynamics, base_velocity, floats as forward_floats, rotation_of as forward_rotation}
use Rattle.forward_visits.specs.Inputs.{Inputs}
use Rattle.dynamics.specs.Calculation.{work_of}
use Rattle.dynamics.specs.declared.calculation.Calculation.{Calculation}
use Rattle.dynamics.specs.declared.calculation.Calculation.TheVariants.{Matrix, Forward}
use Rattle.dynamics.proofs.Sound.{sound}
use Rattle.claims.specs.Settled.{table_of}

-- a visit changes no number but those of its table
pub tabled : (c : Calculation) (m : Model) (i : Inputs) → Tabled (work_of c m i) (table_of c m)
unfolding mass_matrix forward_dynamics
tabled (Matrix mode) m i = record { sets = keeps (plan_of (floats mode) m.n m.kinds) (rotation_of mode) m i.q }
tabled (Forward mode) m i =
    let rotation = forward_rotation mode in
    record { sets = forward-keeps (plan_of (forward_floats mode) m.n m.kinds) rotation (root_velocity rotation (base_velocity mode)) m i.q i.qd i.forces i.loaded i.loads }

module _ (c : Calculation) (m : Model) (i : Inputs) where
  abbrev work : Work
  work = work_of c m i

  -- what was set stays until a visit that the table lists for it
  pub work-stays : (ws out : List Float) (k l at : ℕ) → k ≤ l → Rests (table_of c m) at k l → (after work l ws out).0.position.closed ≡ false
      → get_or (after work l ws out).1 at nan ≡ get_or (after work k ws out).1 at nan
  work-stays = stays (tabled c m i)

  -- and what no table has is never set
  pub work-never : (at : ℕ) → ((k : ℕ) → Clear (table_of c m k) at) → (ws out : List Float) → at < length ws → (k : ℕ) → get_or (after work k ws out).1 at nan ≡ 0·0
  work-never = never (sound c m i) (tabled c m i)
