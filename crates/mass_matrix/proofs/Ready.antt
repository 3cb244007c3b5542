-- What the checks of a call have shown. Assumes nothing.
use mathlib.Core.Bool.{Bool}
use mathlib.Core.List.{List}
use mathlib.Core.Path.{◌≡◌}
use Prim.Native.Nat.{ℕ, ◌+◌, ◌*◌, ◌≤◌}
use native.Mathlib.Omega.{arith}
use lib.ListN.{length}
use lib.Ieee.{Float}
use Rattle.numbers.specs.declared.quaternion.Quaternion.{Quaternion}
use Rattle.refusals.specs.Refusals.{fine}
use Rattle.refusals.proofs.Verdicts.{plain-fine, both-fine}
use Rattle.arm.specs.Model.{Good, wild_of}
use Rattle.arm.specs.Topology.{actives_of, active_numbers}
use Rattle.calls.specs.Plan.{plan_by, plan_of}
use Rattle.calls.specs.declared.plan.Plan.{Plan}
use Rattle.calls.proofs.Fits.{fits, side-most}
use Rattle.calls.proofs.Passed.{tame, not_short, as_wanted, counted}
use Rattle.composites.specs.Plan.{matrix_place, Room}
use Rattle.mass_matrix.specs.Checks.{rest_verdict, tame_verdict, inputs_verdict}
use Rattle.mass_matrix.specs.MassMatrix.{Ready}

roomy : (floating : Bool) (n : ℕ) (parents kinds : List ℕ) (ws : ℕ) → Good n parents kinds → matrix_place n + (plan_of floating n kinds).side * (plan_of floating n kinds).side ≤ ws
    → Room (plan_of floating n kinds) ws
unfolding plan_by
roomy floating n parents kinds ws good h = record { few = good.tree.few; small = omega (arith, side-most floating n parents kinds good, good.tree.few); room = h }

module _ (floating : Bool) (r : Quaternion) (n : ℕ) (parents kinds : List ℕ) (q : List Float) (ws out : ℕ) (v : inputs_verdict floating r n parents kinds q ws out ≡ fine) where
  pub passed-good : Good n parents kinds
  unfolding inputs_verdict
  passed-good = tame n parents kinds (plain-fine 9 (wild_of n parents kinds) (both-fine _ _ v).0)

  passed-ready : (numbers : List ℕ) → numbers ≡ active_numbers kinds → Ready (plan_of floating n kinds) parents kinds numbers (length q) ws out
  unfolding inputs_verdict tame_verdict rest_verdict plan_by
  passed-ready numbers e =
      let a = both-fine _ _ (both-fine _ _ v).1 in
      let b = both-fine _ _ a.1 in
      let d = both-fine _ _ (both-fine _ _ b.1).1 in
      let side = (plan_of floating n kinds).side in
      record {
        fit = fits floating n parents kinds passed-good numbers e;
        room = roomy floating n parents kinds ws passed-good (not_short 10 ws (matrix_place n + side * side) a.0);
        values = counted 11 12 kinds n q b.0;
        output = as_wanted 17 out (side * side) d.0;
      }

  -- of the count and the plan that the code has worked out
  pub plan-ready : (numbers : List ℕ) (a : ℕ) (plan : Plan) → numbers ≡ active_numbers kinds → a ≡ actives_of kinds n → plan ≡ plan_by floating n a
      → Ready plan parents kinds numbers (length q) ws out
  plan-ready numbers a plan e ea ep = rw (ep, ea) (passed-ready numbers e)
