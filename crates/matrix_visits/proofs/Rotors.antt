-- The visits of two models that differ in their rotors alone: the workspaces stay alike but for the diagonal entries of the joints whose rotors differ. Assumes nothing.
use mathlib.Core.List.{List}
use mathlib.Core.Path.{◌≡◌, refl, ap, ap₂}
use Prim.Native.Nat.{ℕ, zero, suc, ◌+◌, ◌-◌, ◌*◌, ◌≤◌, ◌<◌}
use native.Mathlib.Omega.{arith}
use borrow.Author.Tests.{ltb-true, ltb-false}
use lib.Dec.{eqb, ltb}
use lib.Ieee.{Float}
use Rattle.numbers.specs.declared.quaternion.Quaternion.{Quaternion}
use Rattle.std.specs.Prelude.{Option, Some, None}
use Rattle.spatial.specs.Operators.{wrench_to_parent}
use Rattle.spatial.specs.Wrench.{rotated_of}
use Rattle.spatial.specs.declared.wrench.Wrench.{Wrench}
use Rattle.slots.specs.Slots.{frame_at}
use Rattle.slots.proofs.Alike.{Alike, set-alike, put-alike, block-alike, vec3-alike, mat3-alike, wrench-alike, frame-alike, zero-alike}
use Rattle.slots.proofs.Blocks.{vec3-same, mat3-same, frame_same}
use Rattle.arm.specs.Joint.{with_rotor}
use Rattle.arm.specs.Model.{bundle, parent_of, kind_of, motion_of, rotor_of}
use Rattle.arm.specs.Topology.{actives_of, active_joint, Numbered}
use Rattle.arm.specs.declared.joint.Motion.{Motion}
use Rattle.arm.specs.declared.joint.Motion.TheVariants.{Turn, Slide, Fixed}
use Rattle.arm.specs.declared.model.Link.{Link}
use Rattle.arm.specs.declared.model.Model.{Model}
use Rattle.arm.proofs.topology.Actives.{found-is}
use Rattle.calls.specs.declared.plan.Plan.{Plan}
use Rattle.calls.specs.declared.position.Outcome.{Outcome}
use Rattle.calls.proofs.Kept.{chosen}
use Rattle.composites.specs.Composite.{composite_at, put_composite, to_parent_of, joined_of, force_of, entry_of}
use Rattle.composites.specs.Plan.{frame_place, composite_place, root_place, matrix_place, place_of, room_of, put_pair, put_six, add_rotor}
use Rattle.matrix_columns.specs.Walk.{put_entry, walk_step, climb, walk_of, base_rows, column_visit, column_found}
use Rattle.matrix_visits.specs.Kernel.{begun_of, frame_visit, add_into, composite_visit, base_loads_to, root_columns, root_visit, joint_visit, visit_of}

-- ---- what the visits put into both

module _ {P : ℕ → Type 0} {s t : List Float} (h : Alike P s t) where
  composite-alike : (at : ℕ) {c d : Link} → c ≡ d → Alike P (put_composite s at c) (put_composite t at d)
  unfolding put_composite
  composite-alike at {c = c} e = rw (← e) (mat3-alike (vec3-alike (put-alike h at c.mass) (at + 1) c.moment) (at + 4) c.inertia)

  pair-alike : (p : Plan) (row column : ℕ) {x y : Float} → x ≡ y → Alike P (put_pair p row column x s) (put_pair p row column y t)
  unfolding put_pair
  pair-alike p row column e = set-alike (set-alike h (place_of p row column) (λ i. e)) (place_of p column row) (λ i. e)

module _ {P : ℕ → Type 0} {s t : List Float} (h : Alike P s t) where
  six-alike : (p : Plan) (column : ℕ) {v w : Wrench} → v ≡ w → Alike P (put_six p column v s) (put_six p column w t)
  unfolding put_six
  six-alike p column {v = v} e =
      rw (← e)
      (pair-alike (pair-alike (pair-alike (pair-alike (pair-alike (pair-alike h p 0 column refl) p 1 column refl) p 2 column refl) p 3 column refl) p 4 column refl) p 5 column refl)

  entry-alike : (p : Plan) (motion : Motion) (row column : ℕ) {x y : Float} → x ≡ y → Alike P (put_entry p motion row column x s) (put_entry p motion row column y t)
  unfolding put_entry
  entry-alike p (Turn axis) row column e = pair-alike h p row column e
  entry-alike p (Slide axis) row column e = pair-alike h p row column e
  entry-alike p Fixed row column e = h

-- a walk keeps what each of its joints keeps
climb-alike : {S : Type 0} (R : S → S → Type 0) (up : ℕ → ℕ) (act : ℕ → S → S) (n : ℕ) → ((j : ℕ) → j < n → up j ≤ j) → ((j : ℕ) (x y : S) → j < n → R x y → R (act j x) (act j y))
    → (k j : ℕ) (x y : S) → j < n → R x y → R (climb up act k j x) (climb up act k j y)
unfolding climb
climb-alike R up act n tree f zero j x y l r = r
climb-alike R up act n tree f (suc k) j x y l r =
    chosen R (eqb (up j) 0) (λ e. f j x y l r) (λ e. climb-alike R up act n tree f k (up j - 1) (act j x) (act j y) (omega (arith, tree j l)) (f j x y l r))

-- ---- the visits

module _ (p : Plan) (r : Quaternion) (m : Model) (q rotors : List Float) (tree : (j : ℕ) → j < p.n → parent_of m.parents j ≤ j) where
  abbrev kinds : List ℕ
  kinds = m.kinds

  abbrev row : ℕ → ℕ
  row j = p.lead + actives_of kinds j

  -- a place of the workspace that is the diagonal entry of no active joint, but of those whose rotors agree
  pub record Shared (i : ℕ) : Type 0 where
    pub within : i < room_of p
    pub rotor : (j : ℕ) → j < p.n → (kind_of kinds j ≡ 2 → ⊥) → place_of p (row j) (row j) ≡ i → rotor_of m.rotors j ≡ rotor_of rotors j

  abbrev other : Model
  other = bundle m.n m.parents m.kinds m.origins m.axes m.links rotors

  -- what lies before the matrix is shared
  low : (i : ℕ) → i < matrix_place p.n → Shared i
  low i h = record { within = omega arith; rotor = λ j l a e. absurd (omega arith) }

  module _ {s t : List Float} (h : Alike Shared s t) where
    frame-read : (j : ℕ) → j < p.n → frame_at s (frame_place j) ≡ frame_at t (frame_place j)
    frame-read j l = frame_same t s (frame_place j) (block-alike h (frame_place j) 7 (λ i a b. low i (omega arith)))

    composite-read : (at : ℕ) → at + 13 ≤ matrix_place p.n → composite_at s at ≡ composite_at t at
    unfolding composite_at
    composite-read at l k =
        record {
          mass = (h.at at (low at (omega arith))).2 k;
          moment = vec3-same t s (at + 1) (block-alike h (at + 1) 3 (λ i a b. low i (omega arith))) k;
          inertia = mat3-same t s (at + 4) (block-alike h (at + 4) 9 (λ i a b. low i (omega arith))) k;
        }

    into-alike : (at j : ℕ) → at + 13 ≤ matrix_place p.n → j < p.n → Alike Shared (add_into at j s) (add_into at j t)
    unfolding add_into
    into-alike at j l g = composite-alike h at (ap₂ joined_of (composite-read at l) (ap₂ to_parent_of (composite-read (composite_place j) (omega arith)) (frame-read j g)))

    composite-visit : (j : ℕ) → j < p.n → Alike Shared (composite_visit p (parent_of m.parents j) j s) (composite_visit p (parent_of m.parents j) j t)
    unfolding composite_visit
    composite-visit j l =
        let g = tree j l in
        chosen (Alike Shared) (eqb (parent_of m.parents j) 0) (λ e. chosen (Alike Shared) (eqb p.lead 0) (λ d. h) (λ d. into-alike (root_place p.n) j (omega arith) l))
        (λ e. into-alike (composite_place (parent_of m.parents j - 1)) j (omega (arith, g)) l)

    begun-alike : (k : ℕ) → Alike Shared (begun_of p m.links k s) (begun_of p m.links k t)
    unfolding begun_of
    begun-alike k =
        let z = zero-alike h (matrix_place p.n) (p.side * p.side) in
        chosen (Alike Shared) (eqb k 0) (λ e. chosen (Alike Shared) (eqb p.lead 0) (λ d. z) (λ d. composite-alike z (root_place p.n) refl)) (λ e. h)

    frame-visit : (j : ℕ) → Alike Shared (frame_visit m.parents kinds m.origins m.axes m.links q j s) (frame_visit m.parents kinds m.origins m.axes m.links q j t)
    unfolding frame_visit
    frame-visit j = composite-alike (frame-alike h (frame_place j) _) (composite_place j) refl

    -- the rotors of the column's own joint, which the diagonal entry has apart
    rotor-alike : (j : ℕ) → j < p.n → (kind_of kinds j ≡ 2 → ⊥) → Alike Shared (add_rotor p (row j) (rotor_of m.rotors j) s) (add_rotor p (row j) (rotor_of rotors j) t)
    unfolding add_rotor
    rotor-alike j l a = set-alike h (place_of p (row j) (row j)) (λ i. ap₂ with_rotor (i.rotor j l a refl) (h.at (place_of p (row j) (row j)) i).2)

  -- the walk, with the wrench
  abbrev Walking : Wrench × List Float → Wrench × List Float → Type 0
  Walking x y = (x.0 ≡ y.0) × Alike Shared x.1 y.1

  step-alike : (column j : ℕ) (x y : Wrench × List Float) → j < p.n → Walking x y → Walking (walk_step p kinds m.axes column j x) (walk_step p kinds m.axes column j y)
  unfolding walk_step
  step-alike column j x y l w =
      let put = entry-alike w.1 p (motion_of kinds m.axes j) (row j) column (ap (entry_of (motion_of kinds m.axes j)) w.0) in
      (ap₂ wrench_to_parent (frame-read put j l) w.0, put)

  column-alike : (s t : List Float) (j : ℕ) → Alike Shared s t → j < p.n → (kind_of kinds j ≡ 2 → ⊥)
      → Alike Shared (column_visit p r m.parents kinds m.axes m.rotors j s) (column_visit p r m.parents kinds m.axes rotors j t)
  unfolding column_visit walk_of base_rows
  column-alike s t j h l a =
      let force = ap (force_of (motion_of kinds m.axes j)) (composite-read h (composite_place j) (omega arith)) in
      let w = climb-alike Walking (parent_of m.parents) (walk_step p kinds m.axes (row j)) p.n tree (step-alike (row j)) (suc j) j (force_of (motion_of kinds m.axes j) (composite_at s (composite_place j)), s) (force_of (motion_of kinds m.axes j) (composite_at t (composite_place j)), t) l (force, h) in
      let added = rotor-alike w.1 j l a in
      chosen (Alike Shared) (eqb p.lead 0) (λ e. added) (λ e. six-alike added p (row j) (ap (λ (x : Wrench). rotated_of x r) w.0))

  found_alike : (s t : List Float) (k : ℕ) → Alike Shared s t
      → Alike Shared (column_found p r m.parents kinds m.axes m.rotors (active_joint kinds p.n k) s) (column_found p r m.parents kinds m.axes rotors (active_joint kinds p.n k) t)
  unfolding column_found
  found_alike s t k h = go (active_joint kinds p.n k) (found-is kinds p.n k)
    where
      go : (found : Option ℕ) → ((j : ℕ) → found ≡ Some j → Numbered kinds p.n k j)
          → Alike Shared (column_found p r m.parents kinds m.axes m.rotors found s) (column_found p r m.parents kinds m.axes rotors found t)
      go (Some j) f = let is = f j refl in column-alike s t j h is.joint is.active
      go None f = h

  joint-alike : (s t : List Float) (k : ℕ) → Alike Shared s t → Alike Shared (joint_visit p r m q k s) (joint_visit p r other q k t)
  unfolding joint_visit
  joint-alike s t k h =
      let n = p.n in
      chosen (Alike Shared) (ltb k n) (λ e. frame-visit h k)
      (λ e. chosen (Alike Shared) (ltb k (n + n)) (λ d. composite-visit h (n + n - 1 - k) (omega (arith, ltb-false k n e, ltb-true k (n + n) d))) (λ d. found_alike s t (k - (n + n)) h))

  loads-alike : (s t : List Float) (root : Link) (k : ℕ) → Alike Shared s t → Alike Shared (base_loads_to p r root k s) (base_loads_to p r root k t)
  unfolding base_loads_to
  loads-alike s t root zero h = h
  loads-alike s t root (suc k) h = wrench-alike (loads-alike s t root k h) (place_of p 0 k) _

  root_alike : (s t : List Float) → Alike Shared s t → Alike Shared (root_columns p r s) (root_columns p r t)
  unfolding root_columns
  root_alike s t h =
      chosen (Alike Shared) (eqb p.lead 0) (λ e. h)
      (λ e. rw (composite-read h (root_place p.n) (omega arith)) (loads-alike s t (composite_at t (root_place p.n)) 6 h))

  -- A VISIT OF BOTH keeps their workspaces alike
  pub visit-alike : (k : ℕ) (s t : List Float) → Alike Shared s t → Alike Shared (visit_of p r m q k s).1 (visit_of p r other q k t).1
  unfolding visit_of root_visit
  visit-alike k s t h =
      let b = begun-alike h k in
      chosen (λ (x y : Outcome × List Float). Alike Shared x.1 y.1) (ltb k (p.n + p.n + (p.side - p.lead))) (λ e. joint-alike _ _ k b) (λ e. root_alike _ _ b)
