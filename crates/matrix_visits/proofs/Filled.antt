-- The column visits, and the base's own six columns: what the matrix holds after them. Assumes nothing.
use mathlib.Core.List.{List}
use mathlib.Core.Logic.{⊎_elim}
use mathlib.Core.Path.{◌≡◌, refl, ap, ◌∙◌}
use Prim.Native.Nat.{ℕ, zero, suc, ◌+◌, ◌-◌, ◌≤◌, ◌<◌}
use native.Mathlib.Omega.{arith}
use borrow.Author.Tests.{le-ltb}
use lib.ListN.{length, get_or}
use lib.Ieee.{Float, nan}
use Rattle.numbers.specs.declared.quaternion.Quaternion.{Quaternion}
use Rattle.spatial.specs.declared.wrench.Wrench.{Wrench}
use Rattle.slots.specs.Slots.{wrench_at, put_wrench}
use Rattle.slots.proofs.Lengths.{length-put_wrench}
use Rattle.slots.proofs.Blocks.{or-less, put_wrench-outside}
use Rattle.slots.proofs.Puts.{wrench-put}
use Rattle.arm.specs.Topology.{actives_of, active_numbers, Numbered}
use Rattle.arm.specs.declared.model.Link.{Link}
use Rattle.arm.specs.declared.model.Model.{Model}
use Rattle.arm.proofs.topology.Actives.{numbered}
use Rattle.calls.specs.Plan.{Fit}
use Rattle.calls.specs.declared.plan.Plan.{Plan}
use Rattle.composites.specs.Plan.{place_of, room_of}
use Rattle.composites.proofs.Entries.{same_place, place-fits, facing-fits}
use Rattle.plain_entries.specs.Entries.{number_of}
use Rattle.matrix_columns.specs.Walk.{column_visit, column_found}
use Rattle.matrix_columns.proofs.Walks.{row_small}
use Rattle.matrix_columns.proofs.Columns.{Joints, Rows, column-done}
use Rattle.matrix_visits.specs.Kernel.{base_load, base_loads_to, joint_visit}
use Rattle.matrix_visits.proofs.Stages.{stage, composites-done, composites-whole}

-- ---- the joints' columns

module _ (p : Plan) (r : Quaternion) (m : Model) (q ws : List Float) (room : room_of p ≤ length ws) (fit : Fit p m.parents m.kinds (active_numbers m.kinds)) (joints : m.n ≡ p.n) where
  -- the columns of active numbers below c are done
  abbrev pub Done : ℕ → List Float → Type 0
  Done c s = Joints p r m q c s × Rows p r m q c s

  -- they begin with composites and no entry
  columns-begin : Done 0 (stage p r m q (p.n + p.n) ws)
  columns-begin =
      let blank = (composites-done p r m q ws room joints fit.good.tree p.n (omega arith)).1 in
      let small = row_small p m.kinds fit.sided in (
        record {
          holds = composites-whole p r m q ws room joints fit.good.tree;
          entries = λ J I h l f g n b. absurd (omega arith);
          blanks = λ J I h l f g n b. let e = facing-fits p b _ _ (small I (omega arith) g) (small J h f) in blank _ e.0 e.1;
        },
        record { rows = λ z J h f n. absurd (omega arith) },
      )

  column-of : (c J : ℕ) → Numbered m.kinds p.n c J → (s : List Float) → Done c s → Done (suc c) (column_visit p r m.parents m.kinds m.axes m.rotors J s)
  column-of c J named s d =
      rw (← named.number)
      (column-done p r m q fit joints J named.joint named.active s (rw (← named.number) at d.0) (rw (← named.number) at d.1))

  -- AFTER c COLUMN VISITS
  pub columns-done : (c : ℕ) → c ≤ actives_of m.kinds p.n → Done c (stage p r m q (p.n + p.n + c) ws)
  unfolding stage joint_visit column_found
  columns-done zero h = let e : p.n + p.n + 0 ≡ p.n + p.n = omega arith in rw e columns-begin
  columns-done (suc c) h =
      let at = p.n + p.n + c in
      let there : p.n + p.n + suc c ≡ suc at = omega arith in
      let number : at - (p.n + p.n) ≡ c = omega arith in
      let (J, found, named) = numbered m.kinds p.n c h in
      rw (there, le-ltb at p.n (omega arith), le-ltb at (p.n + p.n) (omega arith), number, found)
      (column-of c J named (stage p r m q at ws) (columns-done c (omega arith)))

-- ---- the base's own

one-of-six : (P : ℕ → Type 0) → P 0 → P 1 → P 2 → P 3 → P 4 → P 5 → (i : ℕ) → i < 6 → P i
one-of-six P a b c d e f zero h = a
one-of-six P a b c d e f (suc zero) h = b
one-of-six P a b c d e f (suc (suc zero)) h = c
one-of-six P a b c d e f (suc (suc (suc zero))) h = d
one-of-six P a b c d e f (suc (suc (suc (suc zero)))) h = e
one-of-six P a b c d e f (suc (suc (suc (suc (suc zero))))) h = f
one-of-six P a b c d e f (suc (suc (suc (suc (suc (suc i)))))) h = absurd (omega arith)

-- a wrench in a list, by its number
number_put : (s : List Float) (at : ℕ) (w : Wrench) → at + 6 ≤ length s → (i : ℕ) → i < 6 → get_or (put_wrench s at w) (at + i) nan ≡ number_of w i
unfolding wrench_at number_of
number_put s at w h =
    let e = wrench-put s at w h in
    let e0 : at + 0 ≡ at = omega arith in
    let e4 : at + 4 ≡ at + 3 + 1 = omega arith in
    let e5 : at + 5 ≡ at + 3 + 2 = omega arith in
    one-of-six (λ i. get_or (put_wrench s at w) (at + i) nan ≡ number_of w i)
    (rw e0 (ap (λ (v : Wrench). v.torque.x) e)) (ap (λ (v : Wrench). v.torque.y) e) (ap (λ (v : Wrench). v.torque.z) e)
    (ap (λ (v : Wrench). v.force.x) e) (rw e4 (ap (λ (v : Wrench). v.force.y) e)) (rw e5 (ap (λ (v : Wrench). v.force.z) e))

module _ (p : Plan) (r : Quaternion) (root : Link) (ws : List Float) (wide : 6 ≤ p.side) (room : room_of p ≤ length ws) where
  -- t, after the first k of them
  pub record Loads (k : ℕ) (t : List Float) : Type 0 where
    pub sized : length t ≡ length ws
    pub corner : (row column : ℕ) → row < 6 → column < k → get_or t (place_of p row column) nan ≡ number_of (base_load r root column) row
    pub other : (row column : ℕ) → row < p.side → column < p.side → (row < 6 → column < k → ⊥) → get_or t (place_of p row column) nan ≡ get_or ws (place_of p row column) nan

  -- a place among six from row 0 of a column on is in this column
  in-column : (row column k : ℕ) → row < p.side → place_of p 0 k ≤ place_of p row column → place_of p row column < place_of p 0 k + 6 → (row < 6) × (column ≡ k)
  in-column row column k h a b =
      let i = place_of p row column - place_of p 0 k in
      let e = same_place p row column i k h (omega arith) (omega arith) in
      (omega (arith, e.0), e.1)

  pub loads-done : (k : ℕ) → k ≤ 6 → Loads k (base_loads_to p r root k ws)
  unfolding base_loads_to
  loads-done zero h = record { sized = refl; corner = λ row column f g. absurd (omega arith); other = λ row column f g e. refl }
  loads-done (suc k) h =
      let s = loads-done k (omega arith) in
      let t = base_loads_to p r root k ws in
      let v = base_load r root k in
      let o = put_wrench-outside t (place_of p 0 k) v in
      let fits = place-fits p 5 k (omega arith) (omega arith) in
      let size = s.sized in
      record {
        sized = length-put_wrench t (place_of p 0 k) v ∙ s.sized;
        corner = λ row column f g. ⊎_elim
            (λ (e : column ≡ k). let there : place_of p row k ≡ place_of p 0 k + row = omega arith in rw (e, there) (number_put t (place_of p 0 k) v (omega arith) row f))
            (λ g'. o.kept (place_of p row column) (λ a b. let e = in-column row column k (omega arith) a b in omega (arith, e.1)) ∙ s.corner row column f g') (or-less k column g);
        other = λ row column f g e.
            o.kept (place_of p row column) (λ a b. let d = in-column row column k f a b in e d.0 (omega (arith, d.1)))
            ∙ s.other row column f g (λ a b. e a (omega arith));
      }
