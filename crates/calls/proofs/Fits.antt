-- What the checks have shown of a plan and a position. Assumes nothing.
use mathlib.Core.Bool.{Bool, true, false, cond}
use mathlib.Core.List.{List}
use mathlib.Core.Path.{◌≡◌, refl}
use Prim.Native.Nat.{ℕ, ◌+◌, ◌≤◌}
use native.Mathlib.Omega.{arith}
use Rattle.refusals.specs.Refusals.{fine}
use Rattle.arm.specs.Model.{Good}
use Rattle.arm.specs.Topology.{actives_of, active_numbers}
use Rattle.arm.proofs.topology.Counts.{actives-le}
use Rattle.calls.specs.Plan.{plan_by, plan_of, Fit, Within}
use Rattle.calls.specs.Position.{visits_of, position_verdict, fresh_at}
use Rattle.calls.specs.declared.plan.Plan.{Plan}
use Rattle.calls.specs.declared.position.Position.{Position}
use Rattle.calls.proofs.Passed.{still_open}

lead-small : (b : Bool) → cond {A = ℕ} b 6 0 ≤ 6
lead-small true = omega arith
lead-small false = omega arith

lead-whole : (b : Bool) → (cond {A = ℕ} b 6 0 ≡ 0 → ⊥) → 6 ≤ cond {A = ℕ} b 6 0
lead-whole true f = omega arith
lead-whole false f = absurd (f refl)

-- a good model's plan
module _ (floating : Bool) (n : ℕ) (parents kinds : List ℕ) (good : Good n parents kinds) where
  pub fits : (numbers : List ℕ) → numbers ≡ active_numbers kinds → Fit (plan_of floating n kinds) parents kinds numbers
  unfolding plan_by
  fits numbers e = record { good = good; counted = e; led = lead-small floating; whole = lead-whole floating; sided = refl }

  pub side-most : (plan_of floating n kinds).side ≤ n + 6
  unfolding plan_by
  side-most = omega (arith, lead-small floating, actives-le kinds n)

pub few-actives : (n : ℕ) (parents kinds : List ℕ) → Good n parents kinds → {a : ℕ} → a ≡ actives_of kinds n → (n ≤ 32) × (a ≤ 32)
few-actives n parents kinds good e = (good.tree.few, omega (arith, e, actives-le kinds n, good.tree.few))

-- a position that was judged, and a fresh one, have a visit left
module _ (floating : Bool) (n a : ℕ) (plan : Plan) (p : Position) (e : plan ≡ plan_by floating n a) where
  pub within-judged : (matrix : Bool) → position_verdict matrix floating n a p ≡ fine → Within matrix plan p
  unfolding plan_by visits_of
  within-judged true v = rw e (λ c. let h = (still_open true floating n a p v).1 in omega arith)
  within-judged false v = rw e (λ c. let h = (still_open false floating n a p v).1 in omega arith)

  pub within-fresh : (matrix : Bool) → p ≡ fresh_at matrix floating n a → Within matrix plan p
  unfolding visits_of
  within-fresh true f = rw f (λ c. omega arith)
  within-fresh false f = rw f (λ c. omega arith)
