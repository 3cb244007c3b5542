-- Both calculations without rotors, as they were before item 11 of document 02; no code stands behind them. They differ from the desk's own in D and in the
-- column of a joint alone. Definitions only.
use Rattle.std.specs.Prelude.{true, false, cond, List, ◌≡◌, ℕ, ◌+◌, ◌-◌, ◌<◌, eqb, ltb, get_or, Float}
use Rattle.std.specs.Float.Ieee.{ne}
use Rattle.std.specs.Float.{nan}
use Rattle.numbers.specs.Double.{◌⊖◌, 0·0}
use Rattle.numbers.specs.declared.quaternion.Quaternion.{Quaternion}
use Rattle.std.specs.Prelude.{Option, Some, None}
use Rattle.refusals.specs.Refusals.{Verdict, fine}
use Rattle.spatial.specs.Operators.{motion_force_dot}
use Rattle.spatial.specs.declared.twist.Twist.{Twist}
use Rattle.spatial.specs.declared.wrench.Wrench.{Wrench}
use Rattle.slots.specs.Slots.{wrench_at, mat6_at}
use Rattle.arm.specs.Model.{kind_of, parent_of, motion_of, rotor_of}
use Rattle.arm.specs.Topology.{actives_of, active_joint}
use Rattle.arm.specs.declared.joint.Motion.{Motion}
use Rattle.arm.specs.declared.model.Model.{Model}
use Rattle.calls.specs.Plan.{plan_of}
use Rattle.calls.specs.Position.{Work}
use Rattle.calls.specs.declared.plan.Plan.{Plan}
use Rattle.calls.specs.declared.position.Outcome.{Outcome}
use Rattle.calls.specs.declared.position.Outcome.TheVariants.{Open}
use Rattle.inertia.specs.Inertia.{inertia_apply_joint, subspace_of}
use Rattle.articulated.specs.Root.{root_velocity}
use Rattle.articulated.specs.declared.second.Term.{Term}
use Rattle.forward_slots.specs.Layout.{inertia_place, force_place, results_place}
use Rattle.forward_slots.specs.Eliminate.{fixed_by, unless_refused, kept_term}
use Rattle.forward_passes.specs.First.{first_visit}
use Rattle.forward_passes.specs.Root as root
use Rattle.forward_passes.specs.Second.{propagated}
use Rattle.forward_passes.specs.Third.{third_visit}
use Rattle.forward_visits.specs.Inputs.{Inputs}
use Rattle.forward_visits.specs.Kernel.{outcome_of}
use Rattle.forward_dynamics.specs.Checks as forward
use Rattle.forward_dynamics.specs.ForwardDynamics.{floats as forward_floats, rotation_of as forward_rotation, base_velocity}
use Rattle.forward_dynamics.specs.declared.forward_dynamics.Mode as forward-mode
use Rattle.composites.specs.Composite.{composite_at, force_of}
use Rattle.composites.specs.Plan.{composite_place, matrix_place}
use Rattle.matrix_columns.specs.Walk.{walk_of, base_rows}
use Rattle.matrix_visits.specs.Kernel.{begun_of, frame_visit, composite_visit, root_visit}
use Rattle.mass_matrix.specs.Checks as matrix
use Rattle.mass_matrix.specs.MassMatrix.{floats, rotation_of}
use Rattle.mass_matrix.specs.declared.mass_matrix.Mode as matrix-mode
use Rattle.dynamics.specs.declared.calculation.Calculation.{Calculation}
use Rattle.dynamics.specs.declared.calculation.Calculation.TheVariants.{Matrix, Forward}

-- no active joint of the model has a rotor but a zero, of either sign
abbrev pub NoRotor : Model → Type 0
NoRotor m = (j : ℕ) → j < m.n → (kind_of m.kinds j ≡ 2 → ⊥) → ne (rotor_of m.rotors j) 0·0 ≡ false

-- ---- forward dynamics

-- U = I S, D = S · U, and the joint's own force less S · the bias force
unfoldable pub bare_term : Motion → List Float → Wrench → Float → Term
bare_term motion inertia force own =
    let subspace = subspace_of motion in
    let u = inertia_apply_joint inertia motion in
    record { u = u; d = motion_force_dot subspace u; bias = own ⊖ motion_force_dot subspace force }

unfoldable pub bare_eliminated : Plan → Motion → ℕ → List Float → ℕ → List Float → Verdict × List Float
bare_eliminated p motion number forces j ws =
    cond (fixed_by motion) (fine, ws)
    (kept_term (bare_term motion (mat6_at ws (inertia_place j)) (wrench_at ws (force_place j)) (get_or forces (p.lead + number) nan)) number j ws)

unfoldable pub bare_second : Plan → List ℕ → List ℕ → List Float → List Float → ℕ → List Float → Verdict × List Float
bare_second p parents kinds axes forces j ws =
    let motion = motion_of kinds axes j in
    let e = bare_eliminated p motion (actives_of kinds j) forces j ws in
    unless_refused e.0 e.1 (fine, propagated p motion (parent_of parents j) j e.1)

unfoldable pub bare_pass : Plan → Quaternion → Twist → Model → List Float → List Float → List Float → ℕ → List Float → Verdict × List Float
bare_pass p rotation velocity m q qd forces at ws =
    let n = p.n in
    cond (ltb at n) (fine, first_visit velocity m.parents m.kinds m.origins m.axes m.links q qd at ws)
    (cond (ltb at (n + n)) (bare_second p m.parents m.kinds m.axes forces (n + n - 1 - at) ws)
    (cond (eqb at (n + n)) (root.root_visit p rotation velocity forces ws)
    (third_visit p m.parents m.kinds m.axes (at - (n + n) - 1) ws)))

unfoldable pub bare_forward_visit : Plan → Quaternion → Twist → Model → Inputs → ℕ → List Float → Outcome × List Float
bare_forward_visit p rotation velocity m i at ws =
    let v = bare_pass p rotation velocity m i.q i.qd i.forces at (root.begun_of p.n velocity m.links i.loaded i.loads at ws) in
    (outcome_of v.0 (eqb at (p.n + p.n + p.n)), v.1)

-- ---- the matrix

unfoldable pub bare_column : Plan → Quaternion → List ℕ → List ℕ → List Float → Option ℕ → List Float → List Float
bare_column p r parents kinds axes (Some j) ws =
    let column = p.lead + actives_of kinds j in
    base_rows p r column (walk_of p parents kinds axes column j (force_of (motion_of kinds axes j) (composite_at ws (composite_place j)), ws))
bare_column p r parents kinds axes None ws = ws

unfoldable pub bare_joint : Plan → Quaternion → Model → List Float → ℕ → List Float → List Float
bare_joint p r m q at ws =
    let n = p.n in
    cond (ltb at n) (frame_visit m.parents m.kinds m.origins m.axes m.links q at ws)
    (cond (ltb at (n + n)) (let j = n + n - 1 - at in composite_visit p (parent_of m.parents j) j ws)
    (bare_column p r m.parents m.kinds m.axes (active_joint m.kinds n (at - (n + n))) ws))

unfoldable pub bare_matrix_visit : Plan → Quaternion → Model → List Float → ℕ → List Float → Outcome × List Float
bare_matrix_visit p r m q at ws =
    let begun = begun_of p m.links at ws in
    cond (ltb at (p.n + p.n + (p.side - p.lead))) (Open, bare_joint p r m q at begun) (root_visit p r begun)

-- ---- the calculations

unfoldable pub bare_matrix : matrix-mode.Mode → Model → List Float → Work
bare_matrix mode m q =
    let p = plan_of (floats mode) m.n m.kinds in
    record {
      matrix = true;
      floating = floats mode;
      n = m.n;
      a = actives_of m.kinds m.n;
      inputs = matrix.inputs_verdict (floats mode) (rotation_of mode) m.n m.parents m.kinds q;
      visit = bare_matrix_visit p (rotation_of mode) m q;
      results = matrix_place p.n;
    }

unfoldable pub bare_forward : forward-mode.Mode → Model → Inputs → Work
bare_forward mode m i =
    record {
      matrix = false;
      floating = forward_floats mode;
      n = m.n;
      a = actives_of m.kinds m.n;
      inputs = forward.inputs_verdict (forward_floats mode) (forward_rotation mode) (base_velocity mode) m.n m.parents m.kinds i;
      visit = bare_forward_visit (plan_of (forward_floats mode) m.n m.kinds) (forward_rotation mode) (root_velocity (forward_rotation mode) (base_velocity mode)) m i;
      results = results_place m.n;
    }

abbrev pub bare_of : Calculation → Model → Inputs → Work
bare_of (Matrix mode) m i = bare_matrix mode m i.q
bare_of (Forward mode) m i = bare_forward mode m i
