-- Every visit keeps the workspace's length, and the last is the one that ends. Assumes nothing.
use Rattle.std.specs.Prelude.{Result, Ok, Err}
use mathlib.Core.Bool.{true, false}
use mathlib.Core.List.{List}
use mathlib.Core.Path.{◌≡◌, refl, ◌∙◌}
use Prim.Native.Nat.{ℕ, zero, suc, ◌+◌, ◌-◌}
use native.Mathlib.Omega.{arith}
use borrow.Author.Tests.{eq-eqb, ne_eqb}
use lib.Dec.{eqb, ltb}
use lib.ListN.{length, length-set}
use lib.Ieee.{Float}
use Rattle.numbers.specs.Double.{finite}
use Rattle.numbers.specs.declared.quaternion.Quaternion.{Quaternion}
use Rattle.refusals.specs.Refusals.{Verdict}
use Rattle.refusals.specs.declared.Refusal.{Refusal}
use Rattle.spatial.specs.declared.twist.Twist.{Twist}
use Rattle.slots.proofs.Lengths.{length-put_to, length-put_twist, length-put_wrench, length-put_frame, length-zero_to}
use Rattle.arm.specs.Model.{parent_of, motion_of, rotor_of}
use Rattle.arm.specs.Topology.{actives_of}
use Rattle.arm.specs.declared.joint.Motion.{Motion}
use Rattle.arm.specs.declared.model.Model.{Model}
use Rattle.articulated.specs.declared.root.Base.{Base}
use Rattle.calls.specs.Position.{ended}
use Rattle.calls.specs.declared.position.Outcome.TheVariants.{Accepted}
use Rattle.calls.proofs.Kept.{either_way}
use Rattle.calls.specs.declared.plan.Plan.{Plan}
use Rattle.forward_slots.specs.Layout.{load_place, inertia_place, root_inertia_place, results_place}
use Rattle.forward_slots.specs.Eliminate.{fixed_by, unless_refused, kept_term, eliminated}
use Rattle.forward_slots.specs.Term.{put_term}
use Rattle.forward_slots.specs.Body.{add_body, add_moved}
use Rattle.forward_slots.specs.Whole.{add_whole}
use Rattle.forward_slots.specs.Reduced.{add_reduced}
use Rattle.forward_slots.specs.Loads.{loads_to}
use Rattle.forward_passes.specs.First.{put_first, first_visit}
use Rattle.forward_passes.specs.Second.{add_into, propagated, second_visit}
use Rattle.forward_passes.specs.Root.{put_root, begun_of, kept_base, floating_root, root_visit}
use Rattle.forward_passes.specs.Third.{kept_joint, solved_joint, third_visit}
use Rattle.forward_visits.specs.Kernel.{outcome_of, pass_visit, visit_of}

-- ---- lengths

abbrev size : Verdict × List Float → ℕ
size e = length e.1

size-unless : (v : Verdict) (ws : List Float) (done : Verdict × List Float) (l : ℕ) → length ws ≡ l → size done ≡ l → size (unless_refused v ws done) ≡ l
unfolding unless_refused
size-unless (Ok u) ws done l d e = e
size-unless (Err r) ws done l d e = d

length-loads : (loaded : List ℕ) (loads : List Float) (n : ℕ) (ws : List Float) → length (loads_to loaded loads n ws) ≡ length ws
unfolding loads_to
length-loads loaded loads zero ws = refl
length-loads loaded loads (suc j) ws = length-put_wrench (loads_to loaded loads j ws) (load_place j) _ ∙ length-loads loaded loads j ws

length-begun : (n : ℕ) (velocity : Twist) (links : List Float) (loaded : List ℕ) (loads : List Float) (at : ℕ) (ws : List Float) → length (begun_of n velocity links loaded loads at ws) ≡ length ws
unfolding begun_of put_root
length-begun n velocity links loaded loads at ws = either_way length (eqb at 0) (simp (length-put_wrench, length-put_to, length-loads)) refl

length-first : (velocity : Twist) (parents kinds : List ℕ) (origins axes links q qd : List Float) (j : ℕ) (ws : List Float) → length (first_visit velocity parents kinds origins axes links q qd j ws) ≡ length ws
unfolding first_visit put_first
length-first velocity parents kinds origins axes links q qd j ws = simp (length-put_to, length-put_wrench, length-put_twist, length-put_frame)

length-add_into : (motion : Motion) (at j : ℕ) (ws : List Float) → length (add_into motion at j ws) ≡ length ws
unfolding add_into add_whole add_reduced add_moved add_body
length-add_into motion at j ws = either_way length (fixed_by motion) (simp (length-put_wrench, length-put_to)) (simp (length-put_wrench, length-put_to))

length-propagated : (p : Plan) (motion : Motion) (parent j : ℕ) (ws : List Float) → length (propagated p motion parent j ws) ≡ length ws
unfolding propagated
length-propagated p motion parent j ws =
    either_way length (eqb parent 0)
    (either_way length (eqb p.lead 0) refl (length-add_into motion (root_inertia_place p.n) j ws))
    (length-add_into motion (inertia_place (parent - 1)) j ws)

size-eliminated : (p : Plan) (motion : Motion) (rotor : Float) (number : ℕ) (forces : List Float) (j : ℕ) (ws : List Float) → size (eliminated p motion rotor number forces j ws) ≡ length ws
unfolding eliminated kept_term put_term
size-eliminated p motion rotor number forces j ws = either_way size (fixed_by motion) refl (size-unless _ ws _ (length ws) refl (simp (length-set, length-put_wrench)))

size-second : (p : Plan) (parents kinds : List ℕ) (axes rotors forces : List Float) (j : ℕ) (ws : List Float) → size (second_visit p parents kinds axes rotors forces j ws) ≡ length ws
unfolding second_visit
size-second p parents kinds axes rotors forces j ws =
    let motion = motion_of kinds axes j in
    let e = size-eliminated p motion (rotor_of rotors j) (actives_of kinds j) forces j ws in
    size-unless _ _ _ (length ws) e (length-propagated p motion (parent_of parents j) j _ ∙ e)

size-base : (n : ℕ) (b : Result Base Refusal) (ws : List Float) → size (kept_base n b ws) ≡ length ws
unfolding kept_base
size-base n (Ok b) ws = simp length-put_twist
size-base n (Err r) ws = refl

size-root : (p : Plan) (rotation : Quaternion) (velocity : Twist) (forces ws : List Float) → size (root_visit p rotation velocity forces ws) ≡ length ws
unfolding root_visit floating_root
size-root p rotation velocity forces ws =
    let e = length-zero_to ws (results_place p.n) p.side in
    either_way size (eqb p.lead 0) (length-put_twist _ _ _ ∙ e) (size-base p.n _ _ ∙ e)

size-third : (p : Plan) (parents kinds : List ℕ) (axes : List Float) (j : ℕ) (ws : List Float) → size (third_visit p parents kinds axes j ws) ≡ length ws
unfolding third_visit solved_joint kept_joint
size-third p parents kinds axes j ws =
    either_way size (fixed_by (motion_of kinds axes j)) (length-put_twist _ _ _) (either_way size (finite _) (simp (length-set, length-put_twist)) refl)

-- ---- outcomes

last-ended : (v : Verdict) → ended (outcome_of v true) ≡ true
unfolding outcome_of ended
last-ended (Ok u) = refl
last-ended (Err r) = refl

other-waits : (v : Verdict) → outcome_of v false ≡ Accepted → ⊥
unfolding outcome_of
other-waits (Ok u) e = let z : ◌≡◌ {A = ℕ} 0 1 = cc in omega arith
other-waits (Err r) e = let z : ◌≡◌ {A = ℕ} 0 1 = cc in omega arith

-- ---- the visits

module _ (p : Plan) (rotation : Quaternion) (velocity : Twist) (m : Model) (q qd forces : List Float) where
  size-pass : (at : ℕ) (ws : List Float) → size (pass_visit p rotation velocity m q qd forces at ws) ≡ length ws
  unfolding pass_visit
  size-pass at ws =
      let n = p.n in
      either_way size (ltb at n) (length-first velocity m.parents m.kinds m.origins m.axes m.links q qd at ws)
      (either_way size (ltb at (n + n)) (size-second p m.parents m.kinds m.axes m.rotors forces (n + n - 1 - at) ws)
      (either_way size (eqb at (n + n)) (size-root p rotation velocity forces ws) (size-third p m.parents m.kinds m.axes (at - (n + n) - 1) ws)))

  module _ (loaded : List ℕ) (loads : List Float) (at : ℕ) (ws : List Float) where
    pub length-visit : length (visit_of p rotation velocity m q qd forces loaded loads at ws).1 ≡ length ws
    unfolding visit_of
    length-visit = size-pass at _ ∙ length-begun p.n velocity m.links loaded loads at ws

    pub last-ends : at ≡ p.n + p.n + p.n → ended (visit_of p rotation velocity m q qd forces loaded loads at ws).0 ≡ true
    unfolding visit_of
    last-ends e = rw (eq-eqb at (p.n + p.n + p.n) e) (last-ended _)

    pub others-wait : (at ≡ p.n + p.n + p.n → ⊥) → (visit_of p rotation velocity m q qd forces loaded loads at ws).0 ≡ Accepted → ⊥
    unfolding visit_of
    others-wait f = rw (ne_eqb at (p.n + p.n + p.n) f) (other-waits _)
