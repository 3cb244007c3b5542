-- The mass matrix as a calculation in visits (document 01). Definitions only.
use Rattle.std.specs.Prelude.{Bool, true, false, List, ◌≡◌, ℕ, ◌*◌, Float}
use Rattle.numbers.specs.Double.{0·0, 1·0}
use Rattle.numbers.specs.Vec3.{vec_by}
use Rattle.numbers.specs.declared.quaternion.Quaternion.{Quaternion}
use Rattle.arm.specs.Topology.{actives_of}
use Rattle.arm.specs.declared.model.Model.{Model}
use Rattle.calls.specs.Plan.{plan_of, Fit}
use Rattle.calls.specs.Position.{Work}
use Rattle.calls.specs.declared.plan.Plan.{Plan}
use Rattle.matrix_visits.specs.Kernel.{visit_of}
use Rattle.composites.specs.Plan.{matrix_place, Room}
use Rattle.mass_matrix.specs.Checks.{inputs_verdict}
use Rattle.mass_matrix.specs.declared.mass_matrix.Mode.{Mode}
use Rattle.mass_matrix.specs.declared.mass_matrix.Mode.TheVariants.{Fixed, Floating}

-- whether the root floats, and its rotation; a fixed root has none, and what stands for it is not looked at
abbrev pub floats : Mode → Bool
floats Fixed = false
floats (Floating r) = true

abbrev pub rotation_of : Mode → Quaternion
rotation_of Fixed = record { w = 1·0; u = vec_by (λ i. 0·0) }
rotation_of (Floating r) = r

unfoldable pub mass_matrix : Mode → Model → List Float → Work
mass_matrix mode m q =
    let p = plan_of (floats mode) m.n m.kinds in
    record {
      matrix = true;
      floating = floats mode;
      n = m.n;
      a = actives_of m.kinds m.n;
      inputs = inputs_verdict (floats mode) (rotation_of mode) m.n m.parents m.kinds q;
      visit = visit_of p (rotation_of mode) m q;
      results = matrix_place p.n;
    }

-- ---- what the steps of the code promise each other

-- the checks have passed
pub record Ready (p : Plan) (parents kinds numbers : List ℕ) (q ws out : ℕ) : Type 0 where
  pub fit : Fit p parents kinds numbers
  pub room : Room p ws
  pub values : q ≡ actives_of kinds p.n
  pub output : out ≡ p.side * p.side
