-- After the root's visit of the fast engine every entry is the plain one. Assumes nothing.
use mathlib.Core.Bool.{Bool, true, false, cond}
use mathlib.Core.List.{List}
use mathlib.Core.Logic.{⊎_elim}
use mathlib.Core.Path.{◌≡◌, refl, ap, ap₂, ◌∙◌}
use Prim.Native.Nat.{ℕ, ◌-◌, ◌≤◌, ◌<◌}
use native.Mathlib.Omega.{arith}
use borrow.Author.Tests.{eqb-true, eqb-false, ltb-true, ltb-false}
use lib.Dec.{eqb, ltb}
use lib.ListN.{length, get_or}
use lib.Ieee.{Float, nan}
use Rattle.numbers.specs.declared.quaternion.Quaternion.{Quaternion}
use Rattle.spatial.specs.Wrench.{vector_of}
use Rattle.spatial.specs.declared.wrench.Wrench.{Wrench}
use Rattle.slots.proofs.Blocks.{split}
use Rattle.arm.specs.Topology.{actives_of, active_numbers, Numbered}
use Rattle.arm.specs.declared.model.Link.{Link}
use Rattle.arm.specs.declared.model.Model.{Model}
use Rattle.arm.proofs.topology.Counts.{actives-below}
use Rattle.arm.proofs.topology.Actives.{numbered}
use Rattle.calls.specs.Plan.{Fit}
use Rattle.calls.specs.declared.plan.Plan.{Plan}
use Rattle.composites.specs.Composite.{composite_at}
use Rattle.composites.specs.Plan.{root_place, place_of, room_of}
use Rattle.plain_entries.specs.Arm.{Arm, arm_of}
use Rattle.plain_entries.specs.Entries.{entry_between, number_of}
use Rattle.matrix_columns.proofs.Walks.{Active, row_for}
use Rattle.matrix_columns.proofs.Columns.{Joints, Rows}
use Rattle.matrix_visits.specs.Kernel.{base_load, base_loads_to, root_columns}
use Rattle.matrix_visits.proofs.Filled.{loads-done}
use Rattle.plain_matrix.specs.PlainMatrix.{joint_with, joint_entry, base_entry, corner_entry, entry_at}

-- each number below the count is the number of its joint
pub with_number : (kinds : List ℕ) (n k : ℕ) → k < actives_of kinds n → Numbered kinds n k (joint_with kinds n k)
unfolding joint_with
with_number kinds n k h = let (j, found, named) = numbered kinds n k h in rw found named

-- a wrench's number, as the code reads it
pub number_read : {w w' : Wrench} {v : List Float} → v ≡ vector_of w → w ≡ w' → (k : ℕ) → get_or v k nan ≡ number_of w' k
unfolding number_of
number_read e f k = ap (λ (l : List Float). get_or l k nan) e ∙ ap (λ (w : Wrench). get_or (vector_of w) k nan) f

-- what the code's search answers
pub joint_found : (kinds : List ℕ) (n k j : ℕ) → k < actives_of kinds n → j ≡ joint_with kinds n k → (j ≡ joint_with kinds n k) × (j < n)
joint_found kinds n k j h e = (e, rw e (with_number kinds n k h).joint)

-- joints in the order of their active numbers
pub ordered : (kinds : List ℕ) (I J : ℕ) → Active kinds J → actives_of kinds I ≤ actives_of kinds J → I ≤ J
ordered kinds I J f h = ⊎_elim (λ g. absurd (omega (arith, actives-below kinds I J g f))) (λ g. g) (split J I)

module _ (p : Plan) (r : Quaternion) (m : Model) (q : List Float) where
  abbrev arm : Arm
  arm = arm_of m q

  abbrev total : ℕ
  total = actives_of m.kinds p.n

  module _ (fit : Fit p m.parents m.kinds (active_numbers m.kinds)) (joints : m.n ≡ p.n) (ws : List Float) (s : Joints p r m q total ws) (b : Rows p r m q total ws) where
    six : (p.lead ≡ 0 → ⊥) → p.lead ≡ 6
    six z = omega (arith, fit.led, fit.whole z)

    -- the joint of a row
    at_row : (x : ℕ) → p.lead ≤ x → x < p.side → Numbered m.kinds m.n (x - p.lead) (joint_with m.kinds m.n (x - p.lead))
    at_row x h g = with_number m.kinds m.n (x - p.lead) (rw joints (omega (arith, fit.sided)))

    abbrev joint : ℕ → ℕ
    joint x = joint_with m.kinds m.n (x - p.lead)

    row_is : (x : ℕ) → p.lead ≤ x → x < p.side → x ≡ row_for p m.kinds (joint x)
    row_is x h g = omega (arith, (at_row x h g).number)

    module _ (t : List Float) (keeps : (row column : ℕ) → row < p.side → column < p.side → (row < p.lead → column < p.lead → ⊥) → get_or t (place_of p row column) nan ≡ get_or ws (place_of p row column) nan)
        (corner : (row column : ℕ) → row < p.lead → column < p.lead → get_or t (place_of p row column) nan ≡ corner_entry arm r row column) where
      -- both are joints
      among : (row column : ℕ) → p.lead ≤ row → p.lead ≤ column → row < p.side → column < p.side
          → get_or t (place_of p row column) nan ≡ joint_entry arm m.kinds (row - p.lead) (column - p.lead)
      unfolding joint_entry
      among row column l l' h g =
          keeps row column h g (λ x y. omega arith)
          ∙ ap₂ (λ (x y : ℕ). get_or ws (place_of p x y) nan) (row_is row l h) (row_is column l' g)
          ∙ go (ltb (column - p.lead) (row - p.lead)) (ltb-true (column - p.lead) (row - p.lead)) (ltb-false (column - p.lead) (row - p.lead))
        where
          R : Numbered m.kinds m.n (row - p.lead) (joint row)
          R = at_row row l h

          C : Numbered m.kinds m.n (column - p.lead) (joint column)
          C = at_row column l' g

          go : (x : Bool) → (x ≡ true → column - p.lead < row - p.lead) → (x ≡ false → row - p.lead ≤ column - p.lead)
              → get_or ws (place_of p (row_for p m.kinds (joint row)) (row_for p m.kinds (joint column))) nan ≡ cond x (entry_between arm (joint row) (joint column)) (entry_between arm (joint column) (joint row))
          go true e f =
              let less = e refl in
              s.entries (joint row) (joint column) (omega (arith, R.joint)) (ordered m.kinds (joint column) (joint row) R.active (omega (arith, R.number, C.number)))
              R.active C.active (omega (arith, R.number, fit.sided)) false
          go false e f =
              let less = f refl in
              s.entries (joint column) (joint row) (omega (arith, C.joint)) (ordered m.kinds (joint row) (joint column) C.active (omega (arith, R.number, C.number)))
              C.active R.active (omega (arith, C.number, fit.sided)) true

      base-row : (k column : ℕ) → k < p.lead → p.lead ≤ column → column < p.side → get_or t (place_of p k column) nan ≡ base_entry arm r m.kinds k (column - p.lead)
      unfolding base_entry
      base-row k column h l g =
          let e = six (λ z. omega arith) in
          let C = at_row column l g in
          keeps k column (omega arith) g (λ x y. omega arith)
          ∙ ap (λ (y : ℕ). get_or ws (place_of p k y) nan) (row_is column l g)
          ∙ b.rows (λ z. omega arith) (joint column) (omega (arith, C.joint)) C.active (omega (arith, C.number, fit.sided)) k (omega arith) true

      base-column : (row k : ℕ) → k < p.lead → p.lead ≤ row → row < p.side → get_or t (place_of p row k) nan ≡ base_entry arm r m.kinds k (row - p.lead)
      unfolding base_entry
      base-column row k h l g =
          let e = six (λ z. omega arith) in
          let R = at_row row l g in
          keeps row k g (omega arith) (λ x y. omega arith)
          ∙ ap (λ (y : ℕ). get_or ws (place_of p y k) nan) (row_is row l g)
          ∙ b.rows (λ z. omega arith) (joint row) (omega (arith, R.joint)) R.active (omega (arith, R.number, fit.sided)) k (omega arith) false

      -- any entry
      entry-is : (row column : ℕ) → row < p.side → column < p.side → get_or t (place_of p row column) nan ≡ entry_at arm p.lead r m.kinds row column
      unfolding entry_at
      entry-is row column h g = go (ltb row p.lead) (ltb column p.lead) (ltb-true row p.lead) (ltb-false row p.lead) (ltb-true column p.lead) (ltb-false column p.lead)
        where
          go : (x y : Bool) → (x ≡ true → row < p.lead) → (x ≡ false → p.lead ≤ row) → (y ≡ true → column < p.lead) → (y ≡ false → p.lead ≤ column)
              → get_or t (place_of p row column) nan ≡ cond x (cond y (corner_entry arm r row column) (base_entry arm r m.kinds row (column - p.lead)))
              (cond y (base_entry arm r m.kinds column (row - p.lead)) (joint_entry arm m.kinds (row - p.lead) (column - p.lead)))
          go true true a b c d = corner row column (a refl) (c refl)
          go true false a b c d = base-row row column (a refl) (d refl) g
          go false true a b c d = base-column row column (c refl) (b refl) h
          go false false a b c d = among row column (b refl) (d refl) h g

    -- after the root's visit
    pub root-entry : (row column : ℕ) → row < p.side → column < p.side → get_or (root_columns p r ws) (place_of p row column) nan ≡ entry_at arm p.lead r m.kinds row column
    unfolding root_columns corner_entry
    root-entry row column h g = go (eqb p.lead 0) (eqb-true p.lead 0) (eqb-false p.lead 0)
      where
        go : (x : Bool) → (x ≡ true → p.lead ≡ 0) → (x ≡ false → p.lead ≡ 0 → ⊥)
            → get_or (cond x ws (base_loads_to p r (composite_at ws (root_place p.n)) 6 ws)) (place_of p row column) nan ≡ entry_at arm p.lead r m.kinds row column
        go true e f = let z = e refl in entry-is ws (λ x y a b c. refl) (λ x y a b. absurd (omega arith)) row column h g
        go false e f =
            let z = six (f refl) in
            let root = composite_at ws (root_place p.n) in
            let l = loads-done p r root ws (omega arith) s.holds.room 6 (omega arith) in
            entry-is (base_loads_to p r root 6 ws) (λ x y a b c. l.other x y a b (λ u v. c (omega arith) (omega arith)))
            (λ x y a b. l.corner x y (omega arith) (omega arith) ∙ ap (λ (k : Link). number_of (base_load r k y) x) (s.holds.base (f refl))) row column h g

    pub root-room : room_of p ≤ length (root_columns p r ws)
    unfolding root_columns
    root-room = go (eqb p.lead 0) (eqb-false p.lead 0)
      where
        go : (x : Bool) → (x ≡ false → p.lead ≡ 0 → ⊥) → room_of p ≤ length (cond x ws (base_loads_to p r (composite_at ws (root_place p.n)) 6 ws))
        go true f = s.holds.room
        go false f =
            let z = six (f refl) in
            let room = s.holds.room in
            omega (arith, (loads-done p r (composite_at ws (root_place p.n)) ws (omega (arith, fit.sided)) room 6 (omega arith)).sized)
