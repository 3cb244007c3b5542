-- WHICH NUMBERS AN ENTRY RESTS ON, of the matrices that the public calls accept, on either root; and the marks keep their word (document 02, item 7). Assumes nothing.
use mathlib.Core.Bool.{Bool, true, false, not, cond, ◌&&◌}
use mathlib.Core.List.{List}
use mathlib.Core.Logic.{⊎_elim}
use mathlib.Core.Path.{◌≡◌, refl, sym, ap, ◌∙◌}
use Prim.Native.Nat.{ℕ, suc, ◌*◌, ◌≤◌, ◌<◌}
use native.Mathlib.Omega.{arith}
use borrow.Author.Tests.{eqb-true, eqb-false, ne_eqb}
use lib.Dec.{eqb}
use lib.ListN.{length, get_or}
use lib.Ieee.{Float, nan}
use Rattle.numbers.specs.Double.{0·0, all_finite}
use Rattle.numbers.proofs.Tables.{length-tab, get_or-tab}
use Rattle.std.specs.Prelude.{None, Ok, Err}
use Rattle.refusals.specs.Refusals.{Verdict, fine, refusal}
use Rattle.refusals.proofs.Flags.{neither}
use Rattle.slots.specs.Slots.{vec3_at}
use Rattle.slots.proofs.Blocks.{split}
use Rattle.arm.specs.Joint.{is_fixed, motion_by, frame_of}
use Rattle.arm.specs.Model.{parent_of, kind_of, motion_of, joint_of, Tree}
use Rattle.arm.specs.Topology.{actives_of}
use Rattle.arm.specs.declared.model.Model.{Model}
use Rattle.calls.specs.Plan.{plan_by, plan_of}
use Rattle.calls.specs.Position.{Result, whole_of}
use Rattle.calls.specs.declared.plan.Plan.{Plan}
use Rattle.calls.specs.declared.position.Outcome.{Outcome}
use Rattle.calls.specs.declared.position.Outcome.TheVariants.{Accepted}
use Rattle.calls.specs.declared.position.Outcome.TheVariants as outcome
use Rattle.plain_entries.specs.Arm.{arm_of}
use Rattle.plain_entries.specs.Entries.{entry_between}
use Rattle.plain_entries.specs.Rests.{Carries, Agree}
use Rattle.plain_entries.proofs.Rests.{entry-rests, unrelated}
use Rattle.mass_matrix.specs.MassMatrix.{mass_matrix, floats, rotation_of}
use Rattle.mass_matrix.specs.declared.mass_matrix.Mode.{Mode}
use Rattle.mass_matrix.specs.declared.mass_matrix.Mode.TheVariants.{Fixed}
use Rattle.plain_matrix.specs.PlainMatrix.{unless, plain_verdict, plain_entries, plain_matrix, plain_call}
use Rattle.plain_matrix.proofs.Equal.{seen, same-but-10}
use Rattle.plain_matrix.proofs.Verdicts.{passed}
use Rattle.plain_matrix.proofs.Stored.{list-here, list-there}
use Rattle.standing.specs.Standing.{another, reframed, stands_between, marks_of, marked_by, stands_call}
use Rattle.standing.specs.Kept.{Kept}
use Rattle.standing.specs.declared.changes.Changes.{Changes}
use Rattle.standing.proofs.Trees.{carries-le}
use Rattle.standing.proofs.Marked.{actives-same, marked-same}
use Rattle.standing.proofs.stands.Reads as stands
use Rattle.forward_visits.specs.Inputs.{Inputs}
use Rattle.dynamics.specs.Calculation.{work_of}
use Rattle.dynamics.specs.declared.calculation.Calculation.{Calculation}
use Rattle.dynamics.specs.declared.calculation.Calculation.TheVariants.{Matrix, Forward}
use Rattle.dynamics.proofs.whole.Reads as whole
use Rattle.plain_matrix.proofs.plain_matrix.Reads as plain
use Rattle.claims.specs.Standing.{stored, Active, OneTree, SameBut, StoredEntries, Telling, Tells, MarksKeep}
use Rattle.claims.proofs.Engines.{as-matrix}

-- ---- an accepted matrix, of either engine

-- it is the plain list, of a model that passed the checks
record Made (mode : Mode) (m : Model) (q matrix : List Float) : Type 0 where
  written : matrix ≡ plain_entries (arm_of m q) (plan_of (floats mode) m.n m.kinds) (rotation_of mode) m.kinds
  tree : Tree m.n m.parents

module _ (mode : Mode) (m : Model) (q out : List Float) where
  abbrev entries : List Float
  entries = plain_entries (arm_of m q) (plan_of (floats mode) m.n m.kinds) (rotation_of mode) m.kinds

  abbrev verdict : Verdict
  verdict = plain_verdict (floats mode) (rotation_of mode) m.n m.parents m.kinds q (length out)

  plain-entries : (v : Verdict) (b : Bool) → (unless v out (cond b (Accepted, entries) (outcome.Refused (refusal 37 None), out))).0 ≡ Accepted
      → (v ≡ fine) × ((unless v out (cond b (Accepted, entries) (outcome.Refused (refusal 37 None), out))).1 ≡ entries)
  plain-entries (Ok u) true z = (refl, refl)
  plain-entries (Ok u) false z = let y : ◌≡◌ {A = ℕ} 0 1 = cc in absurd (omega arith)
  plain-entries (Err r) b z = let y : ◌≡◌ {A = ℕ} 0 1 = cc in absurd (omega arith)

  made : (plain_call mode m q out).0 ≡ Accepted → Made mode m q (plain_call mode m q out).1
  unfolding plain_call plain_matrix
  made a =
      let e = plain-entries verdict (all_finite entries) a in
      record { written = e.1; tree = (passed (floats mode) (rotation_of mode) m.n m.parents m.kinds q (length out) e.0).tree }

  by-plain : {x : Outcome × List Float} → x ≡ plain_call mode m q out → x.0 ≡ Accepted → Made mode m q x.1
  by-plain {x = x} e a = rw e (made (ap (λ (y : Outcome × List Float). y.0) (sym e) ∙ a))

  by-fast : (ws : List Float) {x : Result} → x ≡ whole_of (mass_matrix mode m q) ws out → x.0.outcome ≡ Accepted → Made mode m q x.2
  by-fast ws e a =
      by-plain
      (ap seen e ∙ same-but-10 mode m q ws out (λ z. let f : Accepted ≡ outcome.Refused (refusal 10 None) = sym a ∙ ap (λ (y : Result). y.0.outcome) e ∙ ap (λ (y : Outcome × List Float). y.0) z in let y : ◌≡◌ {A = ℕ} 0 1 = cc in omega arith))
      a

module _ (mode : Mode) (m : Model) (q matrix : List Float) (a : Made mode m q matrix) (J I : ℕ) (h : J < m.n) (l : I ≤ J) (f : Active m J) (g : Active m I) where
  -- both mirrored places have the plain entry
  here : stored mode m matrix I J ≡ entry_between (arm_of m q) J I
  unfolding stored plan_by
  here = rw a.written (list-here (arm_of m q) (plan_of (floats mode) m.n m.kinds) (rotation_of mode) m.kinds refl refl J I h l f g)

  there : stored mode m matrix J I ≡ entry_between (arm_of m q) J I
  unfolding stored plan_by
  there = rw a.written (list-there (arm_of m q) (plan_of (floats mode) m.n m.kinds) (rotation_of mode) m.kinds refl refl J I h l f g)

  -- so joints of which neither carries the other have +0.0 in both
  apart : (Carries m.n (parent_of m.parents) (suc I) (suc J) → ⊥) → entry_between (arm_of m q) J I ≡ 0·0
  apart c = unrelated (arm_of m q) a.tree.below I J h c

-- the entry stands where all that it rests on agrees, whatever else is another, the root too
entry-stands : (mode mode' : Mode) (m m' : Model) (q q' matrix matrix' : List Float) → Made mode m q matrix → Made mode' m' q' matrix' → OneTree m m'
    → (J I : ℕ) → J < m.n → Active m J → Active m I → Carries m.n (parent_of m.parents) (suc I) (suc J) → Agree (arm_of m q) (arm_of m' q') J I
    → stored mode m matrix I J ≡ stored mode' m' matrix' I J
entry-stands mode mode' m m' q q' matrix matrix' a b one J I h f g c s =
    let l : I ≤ J = omega (arith, carries-le m.n (parent_of m.parents) a.tree.below c) in
    here mode m q matrix a J I h l f g
    ∙ entry-rests (arm_of m q) (arm_of m' q') a.tree.below J I h c s
    ∙ sym (here mode' m' q' matrix' b J I (omega (arith, one.joints)) l (λ z. f (one.kinds J h ∙ z)) (λ z. g (one.kinds I (omega arith) ∙ z)))

module _ (mode : Mode) (m : Model) (q matrix : List Float) (a : Made mode m q matrix) (J I : ℕ) (j : J < m.n) (i : I < m.n) (f : Active m J) (g : Active m I) where
  same-mirrored : stored mode m matrix I J ≡ stored mode m matrix J I
  same-mirrored =
      ⊎_elim (λ h. there mode m q matrix a I J i (omega arith) g f ∙ sym (here mode m q matrix a I J i (omega arith) g f))
      (λ h. here mode m q matrix a J I j h f g ∙ sym (there mode m q matrix a J I j h f g)) (split J I)

  no-entry : (Carries m.n (parent_of m.parents) (suc I) (suc J) → ⊥) → (Carries m.n (parent_of m.parents) (suc J) (suc I) → ⊥) → stored mode m matrix I J ≡ 0·0
  no-entry c d =
      ⊎_elim (λ h. there mode m q matrix a I J i (omega arith) g f ∙ apart mode m q matrix a I J i (omega arith) g f d)
      (λ h. here mode m q matrix a J I j h f g ∙ apart mode m q matrix a J I j h f g c) (split J I)

-- ---- what was not told is kept in the arms of two models

-- a joint's motion is its kind, and its axis where it has one
motion-same : (kinds kinds' : List ℕ) (axes axes' : List Float) (j : ℕ) → kind_of kinds j ≡ kind_of kinds' j → ((kind_of kinds j ≡ 2 → ⊥) → vec3_at axes (j * 3) ≡ vec3_at axes' (j * 3))
    → motion_of kinds axes j ≡ motion_of kinds' axes' j
unfolding motion_of motion_by
motion-same kinds kinds' axes axes' j e f = ap (λ (k : ℕ). motion_by k (vec3_at axes (j * 3))) e ∙ go (eqb (kind_of kinds' j) 2) (eqb-true (kind_of kinds' j) 2) (eqb-false (kind_of kinds' j) 2)
  where
    go : (b : Bool) → (b ≡ true → kind_of kinds' j ≡ 2) → (b ≡ false → kind_of kinds' j ≡ 2 → ⊥) → motion_by (kind_of kinds' j) (vec3_at axes (j * 3)) ≡ motion_by (kind_of kinds' j) (vec3_at axes' (j * 3))
    go true t u = rw (t refl)
    go false t u = ap (motion_by (kind_of kinds' j)) (f (λ z. u refl (sym e ∙ z)))

module _ (c : Changes) (m m' : Model) (q q' : List Float) (s : SameBut c m m' q q') where
  -- an axis that counts was not told
  axis-kept : (j : ℕ) → (not (is_fixed (kind_of m.kinds j)) && another c.axes j) ≡ false → (kind_of m.kinds j ≡ 2 → ⊥) → another c.axes j ≡ false
  axis-kept j e f = rw (ne_eqb (kind_of m.kinds j) 2 f) at e

  kept : Kept m.n m.parents m.kinds c (arm_of m q) (arm_of m' q')
  unfolding reframed joint_of
  kept =
      record {
        first = refl;
        second = sym s.tree.joints;
        tree = λ j h. (refl, sym (s.tree.parents j h));
        links = s.links;
        frames = λ j h e.
            let d = neither (another c.frames j) (not (is_fixed (kind_of m.kinds j)) && another c.axes j) e in
            λ k. frame_of (s.origins j h d.0 k) (motion-same m.kinds m'.kinds m.axes m'.axes j (s.tree.kinds j h) (λ f. s.axes j h f (axis-kept j d.1 f)) k) (s.values j h d.0 k);
        axes = λ j h f e. motion-same m.kinds m'.kinds m.axes m'.axes j (s.tree.kinds j h) (λ g. s.axes j h g e);
        rotors = s.rotors;
      }

-- ---- the marks

module _ (mode mode' : Mode) (m m' : Model) (q q' matrix matrix' : List Float) (a : Made mode m q matrix) (b : Made mode' m' q' matrix') (c : Changes) (s : SameBut c m m' q q') (root : floats mode ≡ floats mode') where
  one-plan : plan_of (floats mode') m'.n m'.kinds ≡ plan_of (floats mode) m.n m.kinds
  one-plan =
      let e = actives-same m.n m.kinds m'.kinds s.tree.kinds m.n (omega arith) in
      let d = sym s.tree.joints in
      λ k. plan_by (sym root k) (d k) ((ap (actives_of m'.kinds) d ∙ sym e) k)

  abbrev marks : List Bool
  marks = marks_of (plan_of (floats mode) m.n m.kinds) m.kinds (stands_between m.n m.parents m.kinds c)

  marked : (t : ℕ) → t < length marks → another marks t ≡ true → get_or matrix t nan ≡ get_or matrix' t nan
  unfolding marks_of plan_by
  marked t h e =
      let p = plan_of (floats mode) m.n m.kinds in
      let l : t < p.side * p.side = rw (length-tab _ (p.side * p.side)) at h in
      ap (λ (x : List Float). get_or x t nan) a.written
      ∙ marked-same m.n m.parents m.kinds c a.tree (arm_of m q) (arm_of m' q') (kept c m m' q q' s) m'.kinds s.tree.kinds p refl refl (rotation_of mode) (rotation_of mode') t l (sym (get_or-tab _ false (p.side * p.side) t l) ∙ e)
      ∙ ap (λ (p : Plan). get_or (plain_entries (arm_of m' q') p (rotation_of mode') m'.kinds) t nan) (sym one-plan)
      ∙ ap (λ (x : List Float). get_or x t nan) (sym b.written)

  -- marks that were not refused are those of the definition
  made-marks : (floating : Bool) (n : ℕ) (parents kinds : List ℕ) (lent : List Bool) {z : Verdict × List Bool} → z ≡ stands_call floating n parents kinds c lent → z.0 ≡ fine
      → z.1 ≡ marks_of (plan_of floating n kinds) kinds (stands_between n parents kinds c)
  unfolding stands_call
  made-marks floating n parents kinds lent e f =
      ap (λ (x : Verdict × List Bool). x.1) e
      ∙ ap (λ (v : Verdict). marked_by v lent (marks_of (plan_of floating n kinds) kinds (stands_between n parents kinds c))) (ap (λ (x : Verdict × List Bool). x.0) (sym e) ∙ f)

-- asked in this order: whether the root floats, n, parents, kinds, what was told
told-marked : (mode mode' : Mode) (m m' : Model) (q q' matrix matrix' : List Float) (told : Telling) (lent : List Bool) → Made mode m q matrix → Made mode' m' q' matrix'
    → {z : Verdict × List Bool} → z ≡ stands_call told.0 told.1 told.2 told.3 told.4 lent → Tells mode mode' m told → z.0 ≡ fine → SameBut told.4 m m' q q'
    → (t : ℕ) → t < length z.1 → another z.1 t ≡ true → get_or matrix t nan ≡ get_or matrix' t nan
told-marked mode mode' m m' q q' matrix matrix' told lent a b {z = z} ez tells v s t h e =
    let root = tells.root.0 ∙ sym tells.root.1 in
    let w : z.1 ≡ marks_of (plan_of (floats mode) m.n m.kinds) m.kinds (stands_between m.n m.parents m.kinds told.4) =
    made-marks mode mode' m m' q q' matrix matrix' a b told.4 s root told.0 told.1 told.2 told.3 lent ez v
    ∙ (λ k. let n = sym tells.tree.0 k in let kinds = sym tells.tree.2 k in marks_of (plan_of (sym tells.root.0 k) n kinds) kinds (stands_between n (sym tells.tree.1 k) kinds told.4)) in
    marked mode mode' m m' q q' matrix matrix' a b told.4 s root t (rw w at h) (rw w at e)

-- ---- over the contracts

-- the fast engine's call
module _ (c : Calculation) (mode : Mode) (m : Model) (i : Inputs) (ws out : List Float) {x : Result} where
  whole-made : x ≡ whole_of (work_of c m i) ws out → c ≡ Matrix mode → x.0.outcome ≡ Accepted → Made mode m i.q x.2
  whole-made p d = by-fast mode m i.q out ws (p ∙ as-matrix c mode m i ws out d)

pub whole-entries : StoredEntries whole.Post
    (λ κs a. (a.0, a.1.0.now, a.1.1.0.now.q.now))
    (λ κs r e. (r.outcome, e.1.1.1.1.0.now))
whole-entries =
    record {
      stands = λ κs λs a b r s e f p q mode mode' d d' u v. entry-stands mode mode' _ _ _ _ _ _ (whole-made a.0 mode _ _ _ _ p d u) (whole-made b.0 mode' _ _ _ _ q d' v);
      mirrored = λ κs a r e p mode d u. same-mirrored mode _ _ _ (whole-made a.0 mode _ _ _ _ p d u);
      nothing = λ κs a r e p mode d u. no-entry mode _ _ _ (whole-made a.0 mode _ _ _ _ p d u);
    }

pub marked-stands : MarksKeep whole.Post stands.Post
    (λ κs a. (a.0, a.1.0.now, a.1.1.0.now.q.now))
    (λ κs r e. (r.outcome, e.1.1.1.1.0.now))
    (λ κs c. (c.0, c.1.0.now.n, c.1.0.now.parents.now, c.1.0.now.kinds.now, c.1.1.0.now))
    (λ κs v g. (v, g.1.1.1.0.now))
marked-stands κs λs μs a b c r s v e f g p q w mode mode' d d' tells u u' =
    told-marked mode mode' _ _ _ _ _ _ (c.0, c.1.0.now.n, c.1.0.now.parents.now, c.1.0.now.kinds.now, c.1.1.0.now) _ (whole-made a.0 mode _ _ _ _ p d u) (whole-made b.0 mode' _ _ _ _ q d' u') w tells

-- ---- and the plain one's

abbrev matrix_mode : Calculation → Mode
matrix_mode (Matrix mode) = mode
matrix_mode (Forward mode) = Fixed

module _ (own mode : Mode) (m : Model) (q out : List Float) {x : Outcome × List Float} where
  plain-made : x ≡ plain_call own m q out → Matrix own ≡ Matrix mode → x.0 ≡ Accepted → Made mode m q x.1
  plain-made p d = by-plain mode m q out (p ∙ ap (λ (k : Mode). plain_call k m q out) (ap matrix_mode d))

pub plain-matrix-entries : StoredEntries plain.Post
    (λ κs a. (Matrix a.0, a.1.0.now, a.1.1.0.now))
    (λ κs r e. (r, e.1.1.1.0.now))
plain-matrix-entries =
    record {
      stands = λ κs λs a b r s e f p q mode mode' d d' u v. entry-stands mode mode' _ _ _ _ _ _ (plain-made a.0 mode _ _ _ p d u) (plain-made b.0 mode' _ _ _ q d' v);
      mirrored = λ κs a r e p mode d u. same-mirrored mode _ _ _ (plain-made a.0 mode _ _ _ p d u);
      nothing = λ κs a r e p mode d u. no-entry mode _ _ _ (plain-made a.0 mode _ _ _ p d u);
    }

pub plain-marked-stands : MarksKeep plain.Post stands.Post
    (λ κs a. (Matrix a.0, a.1.0.now, a.1.1.0.now))
    (λ κs r e. (r, e.1.1.1.0.now))
    (λ κs c. (c.0, c.1.0.now.n, c.1.0.now.parents.now, c.1.0.now.kinds.now, c.1.1.0.now))
    (λ κs v g. (v, g.1.1.1.0.now))
plain-marked-stands κs λs μs a b c r s v e f g p q w mode mode' d d' tells u u' =
    told-marked mode mode' _ _ _ _ _ _ (c.0, c.1.0.now.n, c.1.0.now.parents.now, c.1.0.now.kinds.now, c.1.1.0.now) _ (plain-made a.0 mode _ _ _ p d u) (plain-made b.0 mode' _ _ _ q d' u') w tells
