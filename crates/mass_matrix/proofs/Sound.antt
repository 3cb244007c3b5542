-- The mass matrix is sound: every visit keeps the workspace's length, and the root's is the one that ends. Assumes nothing.
use mathlib.Core.Bool.{Bool, true, false, not}
use mathlib.Core.List.{List}
use mathlib.Core.Path.{◌≡◌, refl, ap}
use Prim.Native.Nat.{ℕ, ◌+◌, ◌-◌, ◌*◌, ◌≤◌, ◌<◌}
use native.Mathlib.Omega.{arith}
use borrow.Author.Tests.{lt-ltb, le-ltb, ltb-true, ltb-false}
use lib.Dec.{ltb}
use lib.ListN.{take, drop}
use lib.Ieee.{Float}
use Rattle.numbers.specs.Double.{all_finite}
use Rattle.numbers.specs.declared.quaternion.Quaternion.{Quaternion}
use Rattle.arm.specs.declared.model.Model.{Model}
use Rattle.calls.specs.Plan.{plan_by, plan_of, Within}
use Rattle.calls.specs.Position.{visits_of, ended, advanced_by}
use Rattle.calls.specs.Portions.{Sound}
use Rattle.calls.specs.declared.plan.Plan.{Plan}
use Rattle.calls.specs.declared.position.Outcome.{Outcome}
use Rattle.calls.specs.declared.position.Outcome.TheVariants.{Open}
use Rattle.calls.specs.declared.position.Position.{Position}
use Rattle.calls.specs.declared.position.Progress.{Progress}
use Rattle.calls.proofs.Kept.{either_way}
use Rattle.calls.proofs.Steps.{still-within}
use Rattle.matrix_visits.specs.Kernel.{tested, root_visit, visit_of}
use Rattle.composites.specs.Plan.{matrix_place}
use Rattle.matrix_visits.proofs.Kept.{length-visit}
use Rattle.mass_matrix.specs.MassMatrix.{floats, rotation_of, mass_matrix}
use Rattle.mass_matrix.specs.declared.mass_matrix.Mode.{Mode}

tested-ends : (p : Plan) (ws : List Float) → ended (tested p ws) ≡ true
unfolding tested ended
tested-ends p ws = either_way ended (all_finite (take (p.side * p.side) (drop (matrix_place p.n) ws))) refl refl

module _ (p : Plan) (r : Quaternion) (m : Model) (q : List Float) (at : ℕ) (ws : List Float) where
  -- a visit below the root's leaves the position open
  below_root : at < p.n + p.n + (p.side - p.lead) → (visit_of p r m q at ws).0 ≡ Open
  unfolding visit_of
  below_root h = rw (lt-ltb at (p.n + p.n + (p.side - p.lead)) h)

  -- and the root's does not
  last-ends : p.n + p.n + (p.side - p.lead) ≤ at → ended (visit_of p r m q at ws).0 ≡ true
  unfolding visit_of root_visit
  last-ends h = rw (le-ltb at (p.n + p.n + (p.side - p.lead)) h) (tested-ends p _)

  -- whatever the model and the inputs
  pub visit-ends : ended (visit_of p r m q at ws).0 ≡ not (ltb at (p.n + p.n + (p.side - p.lead)))
  unfolding ended
  visit-ends = go (ltb at (p.n + p.n + (p.side - p.lead))) refl
    where
      go : (b : Bool) → ltb at (p.n + p.n + (p.side - p.lead)) ≡ b → ended (visit_of p r m q at ws).0 ≡ not b
      go true e = ap ended (below_root (ltb-true at (p.n + p.n + (p.side - p.lead)) e))
      go false e = last-ends (ltb-false at (p.n + p.n + (p.side - p.lead)) e)

-- after a visit that leaves it open, a position has a visit left
pub within-after : (p : Plan) (r : Quaternion) (m : Model) (q : List Float) (s : Position) (ws : List Float) {o : Outcome} {ws' : List Float} {t : Progress}
    → s.visits < visits_of true p.n (p.side - p.lead) → (o, ws') ≡ visit_of p r m q s.visits ws → t ≡ advanced_by s o → Within true p t.position
unfolding visits_of
within-after p r m q = still-within (visit_of p r m q) (p.n + p.n + (p.side - p.lead) + 1) (λ k ws e. last-ends p r m q k ws (omega arith))

pub sound : (mode : Mode) (m : Model) (q : List Float) → Sound (mass_matrix mode m q)
unfolding mass_matrix visits_of plan_by
sound mode m q =
    let p = plan_of (floats mode) m.n m.kinds in
    record {
      kept = length-visit p (rotation_of mode) m q;
      ends = λ k ws e. last-ends p (rotation_of mode) m q k ws (omega arith);
      waits = λ k ws h e. let o = below_root p (rotation_of mode) m q k ws (omega arith) in let z : ◌≡◌ {A = ℕ} 0 1 = cc in omega arith;
    }
