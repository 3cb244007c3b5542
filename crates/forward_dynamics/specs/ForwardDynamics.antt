-- Forward dynamics as a calculation in visits (document 01). Definitions only.
use Rattle.std.specs.Prelude.{Bool, true, false, List, ◌≡◌, ℕ, ◌*◌, length}
use Rattle.numbers.specs.declared.quaternion.Quaternion.{Quaternion}
use Rattle.spatial.specs.Twist.{zeros_of}
use Rattle.spatial.specs.declared.twist.Twist.{Twist}
use Rattle.arm.specs.Topology.{actives_of}
use Rattle.arm.specs.declared.model.Model.{Model}
use Rattle.calls.specs.Position.{Work}
use Rattle.articulated.specs.Root.{root_velocity}
use Rattle.calls.specs.Plan.{plan_of, Fit}
use Rattle.forward_slots.specs.Layout.{results_place, Room}
use Rattle.forward_dynamics.specs.Checks.{inputs_verdict}
use Rattle.forward_visits.specs.Inputs.{Inputs}
use Rattle.forward_visits.specs.Kernel.{visit_of}
use Rattle.forward_dynamics.specs.declared.forward_dynamics.Mode.{Mode}
use Rattle.forward_dynamics.specs.declared.forward_dynamics.Mode.TheVariants.{Fixed, Floating}
use Rattle.calls.specs.declared.plan.Plan.{Plan}

-- whether the root floats, its rotation, and the base's velocity in the world
abbrev pub floats : Mode → Bool
floats (Fixed rotation) = false
floats (Floating rotation base) = true

abbrev pub rotation_of : Mode → Quaternion
rotation_of (Fixed rotation) = rotation
rotation_of (Floating rotation base) = rotation

abbrev pub base_velocity : Mode → Twist
base_velocity (Fixed rotation) = zeros_of
base_velocity (Floating rotation base) = base

unfoldable pub forward_dynamics : Mode → Model → Inputs → Work
forward_dynamics mode m i =
    record {
      matrix = false;
      floating = floats mode;
      n = m.n;
      a = actives_of m.kinds m.n;
      inputs = inputs_verdict (floats mode) (rotation_of mode) (base_velocity mode) m.n m.parents m.kinds i;
      visit = visit_of (plan_of (floats mode) m.n m.kinds) (rotation_of mode) (root_velocity (rotation_of mode) (base_velocity mode)) m i.q i.qd i.forces i.loaded i.loads;
      results = results_place m.n;
    }

-- ---- what the steps of the code promise each other

-- the checks have passed
pub record Ready (p : Plan) (parents kinds numbers : List ℕ) (i : Inputs) (ws out : ℕ) : Type 0 where
  pub fit : Fit p parents kinds numbers
  pub room : Room p ws
  pub values : length i.q ≡ actives_of kinds p.n
  pub speeds : length i.qd ≡ actives_of kinds p.n
  pub given : length i.forces ≡ p.side
  pub sixes : length i.loads ≡ 6 * length i.loaded
  pub output : out ≡ p.side
