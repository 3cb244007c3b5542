-- WHERE NO ACTIVE JOINT HAS A ROTOR, zeros of either sign aside, both calculations are those without rotors. Assumes nothing.
use mathlib.Core.Bool.{true, false, false≢true}
use mathlib.Core.List.{List}
use mathlib.Core.Path.{◌≡◌, refl, sym, ap, ◌∙◌, fun_ext}
use Prim.Native.Nat.{ℕ, ◌+◌, ◌-◌, ◌<◌}
use native.Mathlib.Omega.{arith}
use borrow.Author.Tests.{ltb-true, ltb-false}
use lib.Dec.{ltb}
use lib.ListN.{set, get_or}
use lib.Seq.{set-get_or}
use lib.Ieee.{Float, ne, nan}
use Rattle.numbers.specs.Double.{0·0}
use Rattle.numbers.specs.declared.quaternion.Quaternion.{Quaternion}
use Rattle.std.specs.Prelude.{Option, Some, None}
use Rattle.spatial.specs.declared.twist.Twist.{Twist}
use Rattle.spatial.specs.declared.wrench.Wrench.{Wrench}
use Rattle.arm.specs.Joint.{motion_by, with_rotor}
use Rattle.arm.specs.Model.{kind_of, motion_of, rotor_of}
use Rattle.arm.specs.Topology.{actives_of, active_joint}
use Rattle.arm.specs.declared.joint.Motion.{Motion}
use Rattle.arm.specs.declared.model.Model.{Model}
use Rattle.arm.proofs.topology.Actives.{found-is}
use Rattle.calls.specs.Plan.{plan_of, plan_by}
use Rattle.calls.specs.Position.{Work}
use Rattle.calls.specs.declared.plan.Plan.{Plan}
use Rattle.calls.specs.declared.position.Outcome.{Outcome}
use Rattle.calls.specs.declared.position.Outcome.TheVariants.{Open}
use Rattle.calls.proofs.Kept.{chosen}
use Rattle.articulated.specs.Root.{root_velocity}
use Rattle.articulated.specs.Second.{term_of}
use Rattle.forward_slots.specs.Eliminate.{fixed_by, new_term, eliminated}
use Rattle.forward_passes.specs.Second.{second_visit}
use Rattle.forward_visits.specs.Inputs.{Inputs}
use Rattle.forward_visits.specs.Kernel as forward
use Rattle.forward_dynamics.specs.ForwardDynamics.{forward_dynamics, floats as forward_floats, rotation_of as forward_rotation, base_velocity}
use Rattle.composites.specs.Plan.{place_of, add_rotor}
use Rattle.matrix_columns.specs.Walk.{column_visit, column_found}
use Rattle.matrix_visits.specs.Kernel.{joint_visit, visit_of}
use Rattle.mass_matrix.specs.MassMatrix.{mass_matrix, floats, rotation_of}
use Rattle.dynamics.specs.Calculation.{work_of}
use Rattle.dynamics.specs.declared.calculation.Calculation.{Calculation}
use Rattle.dynamics.specs.declared.calculation.Calculation.TheVariants.{Matrix, Forward}
use Rattle.claims.specs.Rotorless.{NoRotor, bare_term, bare_eliminated, bare_second, bare_pass, bare_forward_visit, bare_column, bare_joint, bare_matrix_visit, bare_matrix, bare_forward, bare_of}

none : (rotor x : Float) → ne rotor 0·0 ≡ false → with_rotor rotor x ≡ x
unfolding with_rotor
none rotor x e = simp e

-- ---- forward dynamics

same-term : (motion : Motion) (rotor : Float) (inertia : List Float) (force : Wrench) (own : Float) → ne rotor 0·0 ≡ false → term_of motion rotor inertia force own ≡ bare_term motion inertia force own
unfolding term_of bare_term
same-term motion rotor inertia force own e = rw (none rotor _ e)

same-eliminated : (p : Plan) (motion : Motion) (rotor : Float) (number : ℕ) (forces : List Float) (j : ℕ) (ws : List Float) → (fixed_by motion ≡ false → ne rotor 0·0 ≡ false)
    → eliminated p motion rotor number forces j ws ≡ bare_eliminated p motion number forces j ws
unfolding eliminated new_term bare_eliminated
same-eliminated p motion rotor number forces j ws h = chosen ◌≡◌ (fixed_by motion) (λ e. refl) (λ e. rw (same-term motion rotor _ _ _ (h e)))

-- a joint that moves is active
moves : (kinds : List ℕ) (axes : List Float) (j : ℕ) → fixed_by (motion_of kinds axes j) ≡ false → kind_of kinds j ≡ 2 → ⊥
unfolding motion_of motion_by
moves kinds axes j e k = let z : fixed_by (motion_of kinds axes j) ≡ true = rw k in false≢true (sym e ∙ z)

module _ (m : Model) (h : NoRotor m) (p : Plan) (n : p.n ≡ m.n) where
  same-second : (forces : List Float) (j : ℕ) (ws : List Float) → j < p.n
      → second_visit p m.parents m.kinds m.axes m.rotors forces j ws ≡ bare_second p m.parents m.kinds m.axes forces j ws
  unfolding second_visit bare_second
  same-second forces j ws l = rw (same-eliminated p (motion_of m.kinds m.axes j) (rotor_of m.rotors j) (actives_of m.kinds j) forces j ws (λ e. h j (omega (arith, n)) (moves m.kinds m.axes j e)))

  same-pass : (rotation : Quaternion) (velocity : Twist) (q qd forces : List Float) (k : ℕ) (ws : List Float)
      → forward.pass_visit p rotation velocity m q qd forces k ws ≡ bare_pass p rotation velocity m q qd forces k ws
  unfolding forward.pass_visit bare_pass
  same-pass rotation velocity q qd forces k ws =
      chosen ◌≡◌ (ltb k p.n) (λ e. refl)
      (λ e. chosen ◌≡◌ (ltb k (p.n + p.n)) (λ g. same-second forces (p.n + p.n - 1 - k) ws (omega (arith, ltb-false k p.n e, ltb-true k (p.n + p.n) g))) (λ g. refl))

  same-forward : (rotation : Quaternion) (velocity : Twist) (i : Inputs) (k : ℕ) (ws : List Float)
      → forward.visit_of p rotation velocity m i.q i.qd i.forces i.loaded i.loads k ws ≡ bare_forward_visit p rotation velocity m i k ws
  unfolding forward.visit_of bare_forward_visit
  same-forward rotation velocity i k ws = rw (same-pass rotation velocity i.q i.qd i.forces k _)

  -- ---- the matrix

  -- a zero leaves the diagonal entry
  none-added : (row j : ℕ) (ws : List Float) → ne (rotor_of m.rotors j) 0·0 ≡ false → add_rotor p row (rotor_of m.rotors j) ws ≡ ws
  unfolding add_rotor
  none-added row j ws e = let at = place_of p row row in ap (set ws at) (none (rotor_of m.rotors j) (get_or ws at nan) e) ∙ set-get_or ws at nan

  same-found : (r : Quaternion) (found : Option ℕ) (ws : List Float) → ((j : ℕ) → found ≡ Some j → ne (rotor_of m.rotors j) 0·0 ≡ false)
      → column_found p r m.parents m.kinds m.axes m.rotors found ws ≡ bare_column p r m.parents m.kinds m.axes found ws
  unfolding column_found column_visit bare_column
  same-found r (Some j) ws g = rw (none-added _ j _ (g j refl))
  same-found r None ws g = refl

  same-column : (r : Quaternion) (k : ℕ) (ws : List Float)
      → column_found p r m.parents m.kinds m.axes m.rotors (active_joint m.kinds p.n k) ws ≡ bare_column p r m.parents m.kinds m.axes (active_joint m.kinds p.n k) ws
  same-column r k ws = same-found r (active_joint m.kinds p.n k) ws (λ j e. let f = found-is m.kinds p.n k j e in h j (omega (arith, n, f.joint)) f.active)

  same-matrix : (r : Quaternion) (q : List Float) (at : ℕ) (ws : List Float) → visit_of p r m q at ws ≡ bare_matrix_visit p r m q at ws
  unfolding visit_of joint_visit bare_matrix_visit bare_joint
  same-matrix r q at ws =
      chosen ◌≡◌ (ltb at (p.n + p.n + (p.side - p.lead)))
      (λ e. ap (λ s. (Open, s)) (chosen ◌≡◌ (ltb at p.n) (λ f. refl) (λ f. chosen ◌≡◌ (ltb at (p.n + p.n)) (λ g. refl) (λ g. same-column r (at - (p.n + p.n)) _))))
      (λ e. refl)

-- a calculation with these visits
abbrev visiting : Work → (ℕ → List Float → Outcome × List Float) → Work
visiting w visit = record { matrix = w.matrix; floating = w.floating; n = w.n; a = w.a; inputs = w.inputs; visit = visit; results = w.results }

pub no-rotor : (c : Calculation) (m : Model) (i : Inputs) → NoRotor m → work_of c m i ≡ bare_of c m i
unfolding mass_matrix bare_matrix forward_dynamics bare_forward plan_by
no-rotor (Matrix mode) m i h =
    let p = plan_of (floats mode) m.n m.kinds in
    ap (visiting (bare_matrix mode m i.q)) (fun_ext (λ k. fun_ext (λ ws. same-matrix m h p refl (rotation_of mode) i.q k ws)))
no-rotor (Forward mode) m i h =
    let p = plan_of (forward_floats mode) m.n m.kinds in
    let rotation = forward_rotation mode in
    ap (visiting (bare_forward mode m i)) (fun_ext (λ k. fun_ext (λ ws. same-forward m h p refl rotation (root_velocity rotation (base_velocity mode)) i k ws)))
