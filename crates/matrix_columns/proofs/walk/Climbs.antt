-- The walk, a joint at a time, and the wrench that it ends with. Assumes nothing.
use mathlib.Core.Bool.{Bool, true, false, cond}
use mathlib.Core.List.{List}
use mathlib.Core.Path.{◌≡◌, refl, sym, ap, ◌∙◌}
use Prim.Native.Nat.{ℕ, zero, suc, ◌+◌, ◌-◌, ◌≤◌, ◌<◌}
use native.Mathlib.Omega.{arith}
use borrow.Author.Tests.{eqb-false, eq-eqb, ne_eqb}
use lib.Dec.{eqb}
use lib.Ieee.{Float}
use Rattle.spatial.specs.Operators.{wrench_to_parent}
use Rattle.spatial.specs.Wrench.{of_vector, vector_of}
use Rattle.spatial.specs.declared.wrench.Wrench.{Wrench}
use Rattle.slots.specs.Slots.{frame_at}
use Rattle.arm.specs.Model.{parent_of, Tree}
use Rattle.composites.specs.Plan.{frame_place}
use Rattle.matrix_columns.specs.Walk.{put_here, walk_step, climb, walk_of, wrench_with, Reached}
use Rattle.calls.specs.declared.plan.Plan.{Plan}

same_cond : {S : Type 0} (b : Bool) (x y z : S) → (b ≡ false → y ≡ z) → cond b x y ≡ cond b x z
same_cond true x y z f = refl
same_cond false x y z f = f refl

-- any two counts that are enough give the same climb
climb-same : {S : Type 0} (up : ℕ → ℕ) (act : ℕ → S → S) (k l j : ℕ) (s : S) → ((i : ℕ) → i ≤ j → up i ≤ i) → j < k → j < l → climb up act k j s ≡ climb up act l j s
unfolding climb
climb-same up act zero l j s g h h' = absurd (omega arith)
climb-same up act (suc k) zero j s g h h' = absurd (omega arith)
climb-same up act (suc k) (suc l) j s g h h' =
    same_cond (eqb (up j) 0) (act j s) (climb up act k (up j - 1) (act j s)) (climb up act l (up j - 1) (act j s)) (λ e.
    let f = eqb-false (up j) 0 e in
    let u : up j ≤ j = g j (omega arith) in
    climb-same up act k l (up j - 1) (act j s) (λ i q. g i (omega arith)) (omega arith) (omega arith))

module _ {S : Type 0} (up : ℕ → ℕ) (act : ℕ → S → S) (k j : ℕ) (s : S) where
  climb-ends : up j ≡ 0 → climb up act (suc k) j s ≡ act j s
  unfolding climb
  climb-ends z = simp (eq-eqb (up j) 0 z)

  climb-goes : (up j ≡ 0 → ⊥) → climb up act (suc k) j s ≡ climb up act k (up j - 1) (act j s)
  unfolding climb
  climb-goes z = simp (ne_eqb (up j) 0 z)

module _ (p : Plan) (parents kinds : List ℕ) (axes : List Float) (column j : ℕ) (s t : Wrench × List Float) (e : t ≡ walk_step p kinds axes column j s) where
  -- the walk ends below the root
  walk_ends : parent_of parents j ≡ 0 → t ≡ walk_of p parents kinds axes column j s
  unfolding walk_of
  walk_ends z = e ∙ sym (climb-ends (parent_of parents) (walk_step p kinds axes column) j j s z)

  -- and goes on at the parent elsewhere
  walk-goes : (n : ℕ) → Tree n parents → j < n → (parent_of parents j ≡ 0 → ⊥) → walk_of p parents kinds axes column (parent_of parents j - 1) t ≡ walk_of p parents kinds axes column j s
  unfolding walk_of
  walk-goes n g h z =
      climb-same (parent_of parents) (walk_step p kinds axes column) (suc (parent_of parents j - 1)) j (parent_of parents j - 1) t
      (λ i q. g.below i (omega (arith, g.below j h))) (omega arith) (omega (arith, g.below j h))
      ∙ ap (climb (parent_of parents) (walk_step p kinds axes column) j (parent_of parents j - 1)) e
      ∙ sym (climb-goes (parent_of parents) (walk_step p kinds axes column) j j s z)

-- ---- where it has come to

-- what goes on to the same end has reached the same
pub reached-on : (p : Plan) (parents kinds : List ℕ) (axes : List Float) (column i j : ℕ) (s t : Wrench × List Float) (link : ℕ) (end ws : List Float)
    → walk_of p parents kinds axes column i t ≡ walk_of p parents kinds axes column j s → Reached p parents kinds axes column i t link end ws → Reached p parents kinds axes column j s link end ws
reached-on p parents kinds axes column i j s t link end ws e g =
    record {
      written = λ z. rw (← e) (g.written z);
      told = λ z l. rw (← e) (g.told z l);
      goes = λ h. let r = g.goes h in (r.0, r.1, r.2 ∙ e);
    }

module _ (p : Plan) (parents kinds : List ℕ) (axes : List Float) (column j : ℕ) (ws : List Float) {tx ty tz fx fy fz : Float} {w : Wrench} {put : List Float} {parent : ℕ}
    (is : w ≡ wrench_with tx ty tz fx fy fz) (e : put ≡ put_here p kinds axes column j w ws) (u : parent ≡ parent_of parents j) where
  stepped : (wrench_to_parent (frame_at put (frame_place j)) w, put) ≡ walk_step p kinds axes column j (wrench_with tx ty tz fx fy fz, ws)
  unfolding walk_step
  stepped = rw (e, is)

  -- a fixed root throws the last wrench away
  pub reached-fixed : (end : List Float) → parent ≡ 0 → p.lead ≡ 0 → Reached p parents kinds axes column j (wrench_with tx ty tz fx fy fz, ws) 0 end put
  reached-fixed end z l =
      record {
        written = λ y. ap (λ (t : Wrench × List Float). t.1) (walk_ends p parents kinds axes column j (wrench_with tx ty tz fx fy fz, ws) _ stepped (sym u ∙ z));
        told = λ y f. absurd (f l);
        goes = λ h. absurd (h refl);
      }

  module _ {up : Wrench} (f : up ≡ wrench_to_parent (frame_at put (frame_place j)) w) where
    moved : (up, put) ≡ walk_step p kinds axes column j (wrench_with tx ty tz fx fy fz, ws)
    moved = rw f stepped

    pub reached-root : {end : List Float} → parent ≡ 0 → end ≡ vector_of up → Reached p parents kinds axes column j (wrench_with tx ty tz fx fy fz, ws) 0 end put
    reached-root z g =
        let q = walk_ends p parents kinds axes column j (wrench_with tx ty tz fx fy fz, ws) _ moved (sym u ∙ z) in
        record {
          written = λ y. ap (λ (t : Wrench × List Float). t.1) q;
          told = λ y l. g ∙ ap (λ (t : Wrench × List Float). vector_of t.0) q;
          goes = λ h. absurd (h refl);
        }

    module _ (tree : Tree p.n parents) (h : j < p.n) (nz : parent ≡ 0 → ⊥) where
      on : walk_of p parents kinds axes column (parent - 1) (up, put) ≡ walk_of p parents kinds axes column j (wrench_with tx ty tz fx fy fz, ws)
      on = rw u (walk-goes p parents kinds axes column j (wrench_with tx ty tz fx fy fz, ws) _ moved p.n tree h (λ y. nz (u ∙ y)))

      -- a leg ends at the parent
      pub reached-parent : {end : List Float} → end ≡ vector_of up → Reached p parents kinds axes column j (wrench_with tx ty tz fx fy fz, ws) parent end put
      reached-parent g = record { written = λ z. absurd (nz z); told = λ z l. absurd (nz z); goes = λ y. (up, g, on) }

      -- or goes on there
      pub reached-beyond : (link : ℕ) (end ws' : List Float) → Reached p parents kinds axes column (parent - 1) (up, put) link end ws' → Reached p parents kinds axes column j (wrench_with tx ty tz fx fy fz, ws) link end ws'
      reached-beyond link end ws' = reached-on p parents kinds axes column (parent - 1) j (wrench_with tx ty tz fx fy fz, ws) (up, put) link end ws' on

-- ---- legs

module _ (p : Plan) (parents kinds : List ℕ) (axes : List Float) (column j : ℕ) (s : Wrench × List Float) where
  -- before the first
  pub reached-none : {link : ℕ} {end : List Float} → link ≡ j + 1 → end ≡ vector_of s.0 → Reached p parents kinds axes column j s link end s.1
  reached-none e g =
      record {
        written = λ z. absurd (omega (arith, e, z));
        told = λ z l. absurd (omega (arith, e, z));
        goes = λ h. let i : j + 1 - 1 ≡ j = omega arith in (s.0, g, rw (e, i) refl);
      }

  -- one more
  pub reached-next : {link : ℕ} {end ws : List Float} {v : Wrench} (link' : ℕ) (end' ws' : List Float) → (link ≡ 0 → ⊥) → Reached p parents kinds axes column j s link end ws → v ≡ of_vector end
      → Reached p parents kinds axes column (link - 1) (v, ws) link' end' ws' → Reached p parents kinds axes column j s link' end' ws'
  reached-next {link = link} {ws = ws} {v = v} link' end' ws' nz g ev r =
      let here = g.goes nz in
      let is : v ≡ here.0 = rw (ev, here.1) refl in
      reached-on p parents kinds axes column (link - 1) j s (v, ws) link' end' ws' (rw is here.2) r
