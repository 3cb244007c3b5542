-- What the definitions say of either calculation alike, and what a run of its visits is to them. Assumes nothing.
use mathlib.Core.Bool.{Bool, true, false}
use mathlib.Core.List.{List}
use mathlib.Core.Path.{◌≡◌, refl, sym, ap}
use Prim.Native.Nat.{ℕ}
use lib.ListN.{length}
use lib.Ieee.{Float}
use Rattle.numbers.specs.declared.quaternion.Quaternion.{Quaternion}
use Rattle.spatial.specs.declared.twist.Twist.{Twist}
use Rattle.std.specs.Prelude.{Ok, Err, OnOk}
use Rattle.refusals.specs.Refusals.{Verdict, or_else, fine}
use Rattle.slots.specs.Slots.{cleared}
use Rattle.arm.specs.Topology.{actives_of, active_numbers}
use Rattle.arm.specs.declared.model.Model.{Model}
use Rattle.arm.proofs.topology.Counts.{actives-le}
use Rattle.articulated.specs.Root.{root_velocity}
use Rattle.calls.specs.Plan.{plan_by, Within}
use Rattle.calls.specs.Position.{State, visits_of, fresh_at, shut_at, begun_at, position_verdict, unless, iterate, step_by, step_of, opening, answer_by, ran, start_of, portion_of, whole_of}
use Rattle.calls.specs.declared.plan.Plan.{Plan}
use Rattle.calls.specs.declared.position.Answer.{Answer}
use Rattle.calls.specs.declared.position.Position.{Position}
use Rattle.calls.specs.declared.position.Progress.{Progress}
use Rattle.composites.specs.Plan.{matrix_place}
use Rattle.matrix_visits.specs.Kernel as matrix-visits
use Rattle.mass_matrix.specs.MassMatrix as matrix
use Rattle.mass_matrix.specs.MassMatrix.{mass_matrix}
use Rattle.mass_matrix.specs.declared.mass_matrix.Mode.{Mode}
use Rattle.mass_matrix.proofs.Ready as matrix-ready
use Rattle.forward_slots.specs.Layout.{results_place}
use Rattle.forward_visits.specs.Kernel as forward-visits
use Rattle.forward_dynamics.specs.ForwardDynamics as forward
use Rattle.forward_dynamics.specs.ForwardDynamics.{forward_dynamics}
use Rattle.forward_visits.specs.Inputs.{Inputs}
use Rattle.forward_dynamics.specs.declared.forward_dynamics.Mode.{Mode as Root}
use Rattle.forward_dynamics.proofs.Ready as forward-ready
use Rattle.dynamics.specs.Calculation.{work_of, is_matrix, floats, verdict_of}
use Rattle.dynamics.specs.declared.calculation.Calculation.{Calculation}
use Rattle.dynamics.specs.declared.calculation.Calculation.TheVariants.{Matrix, Forward}

-- ---- either calculation

-- the calls, by the checks and the counts that the code has
pub start_is : (c : Calculation) (m : Model) (i : Inputs) (ws out : List Float) → start_of (work_of c m i) ws out
    ≡ unless (verdict_of c m.n m.parents m.kinds i (length ws) (length out)) (shut_at (is_matrix c) (floats c)) ws out (begun_at (fresh_at (is_matrix c) (floats c) m.n (actives_of m.kinds m.n)), cleared ws, out)
unfolding start_of mass_matrix forward_dynamics
start_is (Matrix mode) m i ws out = refl
start_is (Forward mode) m i ws out = refl

pub portion_is : (c : Calculation) (m : Model) (i : Inputs) (budget : ℕ) (p : Position) (ws out : List Float) → portion_of (work_of c m i) budget p ws out
    ≡ unless (or_else (verdict_of c m.n m.parents m.kinds i (length ws) (length out)) (position_verdict (is_matrix c) (floats c) m.n (actives_of m.kinds m.n) p)) p ws out (ran (work_of c m i) budget p ws out)
unfolding portion_of mass_matrix forward_dynamics
portion_is (Matrix mode) m i budget p ws out = refl
portion_is (Forward mode) m i budget p ws out = refl

pub whole_is : (c : Calculation) (m : Model) (i : Inputs) (ws out : List Float) → whole_of (work_of c m i) ws out
    ≡ unless (verdict_of c m.n m.parents m.kinds i (length ws) (length out)) (shut_at (is_matrix c) (floats c)) ws out
    (ran (work_of c m i) (visits_of (is_matrix c) m.n (actives_of m.kinds m.n)) (fresh_at (is_matrix c) (floats c) m.n (actives_of m.kinds m.n)) (cleared ws) out)
unfolding whole_of mass_matrix forward_dynamics
whole_is (Matrix mode) m i ws out = refl
whole_is (Forward mode) m i ws out = refl

-- what a verdict's Ok tells
pub on_fine : {v w : Verdict} {P : Type 0} → v ≡ w → (w ≡ fine → P) → OnOk v P
on_fine {v = Ok u} e f = f (sym e)
on_fine {v = Err r} e f = tt

-- an active number is at most the joint's own
pub ruleset counted = (actives-le)

-- ---- a run

module _ (c : Calculation) (m : Model) (a : ℕ) {f : Bool} {p : Plan} (ea : a ≡ actives_of m.kinds m.n) (ef : f ≡ floats c) (ep : p ≡ plan_by f m.n a) where
  -- what it asks for
  pub planned-joints : m.n ≡ p.n
  unfolding plan_by
  planned-joints = rw ep

  module _ (numbers : List ℕ) (i : Inputs) (ws out : ℕ) (from : Position) (en : numbers ≡ active_numbers m.kinds) (v : verdict_of c m.n m.parents m.kinds i ws out ≡ fine)
      (w : Within (is_matrix c) (plan_by (floats c) m.n a) from) where
    pub ready-matrix : {mode : Mode} → c ≡ Matrix mode → matrix.Ready p m.parents m.kinds numbers (length i.q) ws out × Within true p from
    ready-matrix {mode = mode} ec =
        let ready = matrix-ready.plan-ready (matrix.floats mode) (matrix.rotation_of mode) m.n m.parents m.kinds i.q ws out (rw ec at v) numbers a _ en ea refl in
        rw (ep, ef, ec) (ready, rw ec at w)

    pub ready-forward : {mode : Root} → c ≡ Forward mode → forward.Ready p m.parents m.kinds numbers i ws out × Within false p from
    ready-forward {mode = mode} ec =
        let ready = forward-ready.plan-ready (forward.floats mode) (forward.rotation_of mode) (forward.base_velocity mode) m.n m.parents m.kinds i ws out (rw ec at v) numbers a _ en ea refl in
        rw (ep, ef, ec) (ready, rw ec at w)

  -- and what it answers
  module _ (i : Inputs) (budget : ℕ) (from : Position) (ws out : List Float) (s : Progress) {t : Answer} (et : t ≡ answer_by from s) {ws' out' : List Float} where
    pub ran-matrix : {mode : Mode} (r : Quaternion) → c ≡ Matrix mode → r ≡ matrix.rotation_of mode
        → (s, ws', out') ≡ iterate (step_by (matrix-visits.visit_of p r m i.q) (matrix_place p.n)) budget (opening from, ws, out)
        → (t, ws', out') ≡ ran (work_of c m i) budget from ws out
    unfolding mass_matrix plan_by
    ran-matrix {mode = mode} r ec er es =
        let run : (s, ws', out') ≡ iterate (step_of (mass_matrix mode m i.q)) budget (opening from, ws, out) = rw (ep, ef, ec, ea, er) at es in
        rw (ec, et) (ap (λ (k : State). (answer_by from k.0, k.1, k.2)) run)

    pub ran-forward : {mode : Root} (rotation : Quaternion) (base velocity : Twist) → c ≡ Forward mode → rotation ≡ forward.rotation_of mode → base ≡ forward.base_velocity mode
        → velocity ≡ root_velocity rotation base
        → (s, ws', out') ≡ iterate (step_by (forward-visits.visit_of p rotation velocity m i.q i.qd i.forces i.loaded i.loads) (results_place p.n)) budget (opening from, ws, out)
        → (t, ws', out') ≡ ran (work_of c m i) budget from ws out
    unfolding forward_dynamics plan_by
    ran-forward {mode = mode} rotation base velocity ec er eb ev es =
        let run : (s, ws', out') ≡ iterate (step_of (forward_dynamics mode m i)) budget (opening from, ws, out) = rw (ep, ef, ec, ea, ev, er, eb) at es in
        rw (ec, et) (ap (λ (k : State). (answer_by from k.0, k.1, k.2)) run)
