-- A visit sets no place but those of the table: every other number keeps its bits. Assumes nothing.
use Rattle.std.specs.Prelude.{Result, Ok, Err}
use mathlib.Core.Bool.{cond}
use mathlib.Core.List.{List, [], ◌∷◌, ◌++◌}
use mathlib.Core.Path.{◌≡◌, refl}
use Prim.Native.Nat.{ℕ, zero, suc, ◌+◌, ◌-◌}
use native.Mathlib.Omega.{arith}
use lib.Dec.{eqb, ltb}
use lib.Ieee.{Float}
use Rattle.numbers.specs.Double.{finite}
use Rattle.numbers.specs.declared.quaternion.Quaternion.{Quaternion}
use Rattle.refusals.specs.Refusals.{Verdict, fine}
use Rattle.refusals.specs.declared.Refusal.{Refusal}
use Rattle.spatial.specs.declared.twist.Twist.{Twist}
use Rattle.spatial.specs.declared.wrench.Wrench.{Wrench}
use Rattle.slots.specs.Parts.{Part, part, Sets}
use Rattle.slots.specs.Slots.{zero_to}
use Rattle.slots.proofs.Sets.{none, here, there, then, row, choice, way}
use Rattle.slots.proofs.Blocks.{Outside, wider, both, set-outside, put_twist-outside, put_wrench-outside, put_frame-outside, put_to-outside, zero_to-outside}
use Rattle.arm.specs.Model.{parent_of, motion_of, rotor_of}
use Rattle.arm.specs.Topology.{actives_of}
use Rattle.arm.specs.declared.joint.Motion.{Motion}
use Rattle.arm.specs.declared.model.Model.{Model}
use Rattle.articulated.specs.declared.root.Base.{Base}
use Rattle.articulated.specs.declared.second.Term.{Term}
use Rattle.calls.specs.declared.plan.Plan.{Plan}
use Rattle.forward_slots.specs.Layout.{inertia_place, force_place, root_inertia_place, root_force_place, root_acceleration_place, results_place}
use Rattle.forward_slots.specs.Loads.{loads_to}
use Rattle.forward_slots.specs.Eliminate.{fixed_by, unless_refused, kept_term, eliminated}
use Rattle.forward_slots.specs.Term.{put_term}
use Rattle.forward_slots.specs.Body.{add_body, add_moved}
use Rattle.forward_slots.specs.Whole.{add_whole}
use Rattle.forward_slots.specs.Reduced.{add_reduced}
use Rattle.forward_passes.specs.First.{put_first, first_visit}
use Rattle.forward_passes.specs.Second.{add_into, propagated, second_visit}
use Rattle.forward_passes.specs.Root.{put_root, begun_of, kept_base, floating_root, root_visit}
use Rattle.forward_passes.specs.Third.{kept_joint, solved_joint, third_visit}
use Rattle.forward_visits.specs.Kernel.{pass_visit, visit_of}
use Rattle.forward_visits.specs.Places.{load_parts, begun_parts, first_parts, term_parts, parent_parts, root_parts, third_parts, pass_parts, set_by}

put_term-outside : (s : List Float) (at : ℕ) (t : Term) → Outside at 8 s (put_term s at t)
unfolding put_term
put_term-outside s at t =
    both (wider (put_wrench-outside s at t.u) (omega arith) (omega arith))
    (both (wider (set-outside _ (at + 6) t.d) (omega arith) (omega arith)) (wider (set-outside _ (at + 7) t.bias) (omega arith) (omega arith)))

-- what a visit leaves
abbrev left : Verdict × List Float → List Float
left e = e.1

abbrev same : List Float → List Float
same ws = ws

-- a visit that refuses sets fewer
unless : (v : Verdict) {parts : List Part} {s ws done : List Float} → Sets parts s ws → Sets parts s done → Sets parts s (unless_refused v ws (fine, done)).1
unfolding unless_refused
unless (Ok u) d e = e
unless (Err r) d e = d

-- ---- the first visit and the first pass

loads-sets : (loaded : List ℕ) (loads : List Float) (n : ℕ) (ws : List Float) → Sets (load_parts n) ws (loads_to loaded loads n ws)
unfolding load_parts loads_to
loads-sets loaded loads zero ws = none ws
loads-sets loaded loads (suc j) ws = then (there (loads-sets loaded loads j ws)) (here (put_wrench-outside _ _ _))

begun-sets : (n : ℕ) (velocity : Twist) (links : List Float) (loaded : List ℕ) (loads : List Float) (k : ℕ) (ws : List Float)
    → Sets (cond (eqb k 0) (begun_parts n) []) ws (begun_of n velocity links loaded loads k ws)
unfolding begun_parts begun_of put_root
begun-sets n velocity links loaded loads k ws =
    way same (eqb k 0)
    (then (there (there (loads-sets loaded loads n ws))) (then (here (put_to-outside _ _ _ 36)) (there (here (put_wrench-outside _ _ _)))))
    (none ws)

first-sets : (velocity : Twist) (parents kinds : List ℕ) (origins axes links q qd : List Float) (j : ℕ) (ws : List Float) → Sets (first_parts j) ws (first_visit velocity parents kinds origins axes links q qd j ws)
unfolding first_parts first_visit put_first
first-sets velocity parents kinds origins axes links q qd j ws =
    then (here (put_frame-outside _ _ _))
    (then (there (here (put_twist-outside _ _ _)))
    (then (there (there (here (put_twist-outside _ _ _))))
    (then (there (there (there (there (here (put_wrench-outside _ _ _)))))) (there (there (there (here (put_to-outside _ _ _ 36))))))))

-- ---- the second pass

term-sets : (p : Plan) (motion : Motion) (rotor : Float) (number : ℕ) (forces : List Float) (j : ℕ) (ws : List Float) → Sets (term_parts motion j) ws (eliminated p motion rotor number forces j ws).1
unfolding term_parts eliminated kept_term
term-sets p motion rotor number forces j ws = way left (fixed_by motion) (none ws) (unless _ (none ws) (here (put_term-outside _ _ _)))

-- an inertia, and its force at a place behind it
module _ (at behind : ℕ) (h : behind ≡ at + 36) where
  moved-sets : (inertia : List Float) (force : Wrench) (j : ℕ) (ws : List Float) → Sets (part at 36 ∷ part behind 6 ∷ []) ws (add_moved inertia force at j ws)
  unfolding add_moved add_body
  moved-sets inertia force j ws = then (here (put_to-outside _ _ _ 36)) (there (here (wider (put_wrench-outside _ _ _) (omega arith) (omega arith))))

  added-sets : (motion : Motion) (j : ℕ) (ws : List Float) → Sets (part at 36 ∷ part behind 6 ∷ []) ws (add_into motion at j ws)
  unfolding add_into add_whole add_reduced
  added-sets motion j ws = choice same (fixed_by motion) (moved-sets _ _ j ws) (moved-sets _ _ j ws)

propagated-sets : (p : Plan) (motion : Motion) (parent j : ℕ) (ws : List Float) → Sets (parent_parts p parent) ws (propagated p motion parent j ws)
unfolding parent_parts propagated
propagated-sets p motion parent j ws =
    way same (eqb parent 0)
    (way same (eqb p.lead 0) (none ws) (added-sets (root_inertia_place p.n) (root_force_place p.n) refl motion j ws))
    (added-sets (inertia_place (parent - 1)) (force_place (parent - 1)) (omega arith) motion j ws)

second-sets : (p : Plan) (parents kinds : List ℕ) (axes rotors forces : List Float) (j : ℕ) (ws : List Float)
    → Sets (term_parts (motion_of kinds axes j) j ++ parent_parts p (parent_of parents j)) ws (second_visit p parents kinds axes rotors forces j ws).1
unfolding second_visit
second-sets p parents kinds axes rotors forces j ws =
    let motion = motion_of kinds axes j in
    let parent = parent_of parents j in
    let e = term-sets p motion (rotor_of rotors j) (actives_of kinds j) forces j ws in
    unless _ (row (term_parts motion j) (parent_parts p parent) e (none _)) (row (term_parts motion j) (parent_parts p parent) e (propagated-sets p motion parent j _))

-- ---- the root and the third pass

base-sets : (p : Plan) (b : Result Base Refusal) (ws : List Float)
    → Sets (part (results_place p.n) p.side ∷ part (results_place p.n) 6 ∷ part (root_acceleration_place p.n) 6 ∷ []) ws (kept_base p.n b (zero_to ws (results_place p.n) p.side)).1
unfolding kept_base
base-sets p (Ok b) ws = then (here (zero_to-outside _ _ p.side)) (then (there (here (put_twist-outside _ _ _))) (there (there (here (put_twist-outside _ _ _)))))
base-sets p (Err r) ws = here (zero_to-outside _ _ p.side)

root-sets : (p : Plan) (rotation : Quaternion) (velocity : Twist) (forces ws : List Float) → Sets (root_parts p) ws (root_visit p rotation velocity forces ws).1
unfolding root_parts root_visit floating_root
root-sets p rotation velocity forces ws =
    way left (eqb p.lead 0)
    (then (here (zero_to-outside _ _ p.side)) (there (here (put_twist-outside _ _ _))))
    (base-sets p _ ws)

third-sets : (p : Plan) (parents kinds : List ℕ) (axes : List Float) (j : ℕ) (ws : List Float)
    → Sets (third_parts p (motion_of kinds axes j) (actives_of kinds j) j) ws (third_visit p parents kinds axes j ws).1
unfolding third_parts third_visit solved_joint kept_joint
third-sets p parents kinds axes j ws =
    way left (fixed_by (motion_of kinds axes j))
    (here (put_twist-outside _ _ _))
    (choice left (finite _) (then (here (put_twist-outside _ _ _)) (there (here (set-outside _ _ _)))) (none ws))

-- ---- the visits

module _ (p : Plan) (rotation : Quaternion) (velocity : Twist) (m : Model) (q qd forces : List Float) where
  pass-sets : (k : ℕ) (ws : List Float) → Sets (pass_parts p m k) ws (pass_visit p rotation velocity m q qd forces k ws).1
  unfolding pass_parts pass_visit
  pass-sets k ws =
      let n = p.n in
      way left (ltb k n) (first-sets velocity m.parents m.kinds m.origins m.axes m.links q qd k ws)
      (way left (ltb k (n + n)) (second-sets p m.parents m.kinds m.axes m.rotors forces (n + n - 1 - k) ws)
      (way left (eqb k (n + n)) (root-sets p rotation velocity forces ws) (third-sets p m.parents m.kinds m.axes (k - (n + n) - 1) ws)))

  -- A VISIT SETS NO OTHER PLACE, whatever the arguments are: past the workspace's end a number is NaN before and after
  pub keeps : (loaded : List ℕ) (loads : List Float) (k : ℕ) (ws : List Float) → Sets (set_by p m k) ws (visit_of p rotation velocity m q qd forces loaded loads k ws).1
  unfolding set_by visit_of
  keeps loaded loads k ws = row (cond (eqb k 0) (begun_parts p.n) []) (pass_parts p m k) (begun-sets p.n velocity m.links loaded loads k ws) (pass-sets k _)
