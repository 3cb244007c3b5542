-- What the checks of a call have shown. Assumes nothing.
use mathlib.Core.Bool.{Bool}
use mathlib.Core.List.{List}
use mathlib.Core.Path.{◌≡◌}
use Prim.Native.Nat.{ℕ, ◌*◌, ◌≤◌}
use lib.ListN.{length}
use Rattle.numbers.specs.declared.quaternion.Quaternion.{Quaternion}
use Rattle.refusals.specs.Refusals.{fine}
use Rattle.refusals.proofs.Verdicts.{plain-fine, both-fine}
use Rattle.spatial.specs.declared.twist.Twist.{Twist}
use Rattle.arm.specs.Model.{Good, wild_of}
use Rattle.arm.specs.Topology.{actives_of, active_numbers}
use Rattle.calls.specs.Plan.{plan_by, plan_of}
use Rattle.calls.specs.declared.plan.Plan.{Plan}
use Rattle.calls.proofs.Fits.{fits, side-most}
use Rattle.calls.proofs.Passed.{tame, not_short, as_wanted, counted}
use Rattle.forward_slots.specs.Layout.{room_of, Room}
use Rattle.forward_dynamics.specs.Checks.{motion_verdict, forces_verdict, loads_verdict, rest_verdict, inputs_verdict}
use Rattle.forward_dynamics.specs.ForwardDynamics.{Ready}
use Rattle.forward_visits.specs.Inputs.{Inputs}

roomy : (floating : Bool) (n : ℕ) (parents kinds : List ℕ) (ws : ℕ) → Good n parents kinds → room_of n ≤ ws → Room (plan_of floating n kinds) ws
unfolding plan_by
roomy floating n parents kinds ws good h = record { few = good.tree.few; small = side-most floating n parents kinds good; room = h }

module _ (floating : Bool) (rotation : Quaternion) (base : Twist) (n : ℕ) (parents kinds : List ℕ) (i : Inputs) (ws out : ℕ) (v : inputs_verdict floating rotation base n parents kinds i ws out ≡ fine) where
  pub passed-good : Good n parents kinds
  unfolding inputs_verdict
  passed-good = tame n parents kinds (plain-fine 9 (wild_of n parents kinds) (both-fine _ _ v).0)

  passed-ready : (numbers : List ℕ) → numbers ≡ active_numbers kinds → Ready (plan_of floating n kinds) parents kinds numbers i ws out
  unfolding inputs_verdict rest_verdict motion_verdict forces_verdict loads_verdict plan_by
  passed-ready numbers e =
      let a = both-fine _ _ (both-fine _ _ v).1 in
      let b = both-fine _ _ a.1 in
      let d = both-fine _ _ b.1 in
      let f = both-fine _ _ d.1 in
      let g = both-fine _ _ f.0 in
      let l = both-fine _ _ (both-fine _ _ f.1).0 in
      let side = (plan_of floating n kinds).side in
      record {
        fit = fits floating n parents kinds passed-good numbers e;
        room = roomy floating n parents kinds ws passed-good (not_short 10 ws (room_of n) a.0);
        values = counted 11 12 kinds n i.q b.0;
        speeds = counted 14 15 kinds n i.qd (both-fine _ _ d.0).1;
        given = as_wanted 16 (length i.forces) side g.0;
        sixes = as_wanted 19 (length i.loads) (6 * length i.loaded) l.0;
        output = as_wanted 17 out side (both-fine _ _ g.1).0;
      }

  -- of the count and the plan that the code has worked out
  pub plan-ready : (numbers : List ℕ) (a : ℕ) (plan : Plan) → numbers ≡ active_numbers kinds → a ≡ actives_of kinds n → plan ≡ plan_by floating n a → Ready plan parents kinds numbers i ws out
  plan-ready numbers a plan e ea ep = rw (ep, ea) (passed-ready numbers e)
