-- The sizes of one calculation. Definitions only.
use Rattle.std.specs.Prelude.{Bool, false, cond, List, ◌≡◌, ℕ, ◌+◌, ◌-◌, ◌≤◌, ◌<◌}
use Rattle.arm.specs.Model.{Good}
use Rattle.arm.specs.Topology.{actives_of, active_numbers}
use Rattle.calls.specs.Position.{visits_of}
use Rattle.calls.specs.declared.plan.Plan.{Plan}
use Rattle.calls.specs.declared.position.Position.{Position}

-- G is a, or a + 6 with a floating root
unfoldable pub plan_by : Bool → ℕ → ℕ → Plan
plan_by floating n a = let lead = cond {A = ℕ} floating 6 0 in record { n = n; lead = lead; side = lead + a }

abbrev pub plan_of : Bool → ℕ → List ℕ → Plan
plan_of floating n kinds = plan_by floating n (actives_of kinds n)

-- ---- what the steps of the code promise each other

-- the plan fits a model's lists
pub record Fit (p : Plan) (parents kinds numbers : List ℕ) : Type 0 where
  pub good : Good p.n parents kinds
  pub counted : numbers ≡ active_numbers kinds
  pub led : p.lead ≤ 6
  pub whole : (p.lead ≡ 0 → ⊥) → 6 ≤ p.lead
  pub sided : p.side ≡ p.lead + actives_of kinds p.n

-- an open position of the matrix, else of forward dynamics, has a visit left
abbrev pub Within : Bool → Plan → Position → Type 0
Within matrix p s = s.closed ≡ false → s.visits < visits_of matrix p.n (p.side - p.lead)
