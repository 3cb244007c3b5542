-- The column of an active joint: after it every entry between joints that the column has, and the base's rows of it, are the plain ones. Assumes nothing.
use mathlib.Core.Bool.{Bool, true, false, not, cond}
use mathlib.Core.List.{List}
use mathlib.Core.Logic.{◌⊎◌, inl, inr, ⊎_elim}
use mathlib.Core.Path.{◌≡◌, refl, sym, ap, ◌∙◌}
use Prim.Native.Nat.{ℕ, zero, suc, ◌+◌, ◌≤◌, ◌<◌}
use native.Mathlib.Nat.{eq-or-lt_of_le}
use native.Mathlib.Omega.{arith}
use borrow.Author.Tests.{eqb-true, eqb-false}
use lib.Dec.{eqb}
use lib.ListN.{get_or}
use lib.Ieee.{Float, nan}
use Rattle.numbers.specs.Double.{0·0}
use Rattle.numbers.specs.declared.quaternion.Quaternion.{Quaternion}
use Rattle.spatial.specs.Wrench.{rotated_of}
use Rattle.spatial.specs.declared.wrench.Wrench.{Wrench}
use Rattle.slots.proofs.Blocks.{split, or-less}
use Rattle.arm.specs.Joint.{with_rotor}
use Rattle.arm.specs.Topology.{actives_of, active_numbers}
use Rattle.arm.specs.declared.model.Link.{Link}
use Rattle.arm.specs.declared.model.Model.{Model}
use Rattle.arm.proofs.topology.Counts.{actives-below}
use Rattle.calls.specs.Plan.{Fit}
use Rattle.calls.specs.declared.plan.Plan.{Plan}
use Rattle.composites.specs.Plan.{put_pair, put_six, add_rotor}
use Rattle.composites.proofs.Entries.{facing, facing-flips, pair_put, pair-away, pair-outside, length-put_pair, rotor-put, rotor-away, rotor-outside, length-add_rotor}
use Rattle.plain_entries.specs.Arm.{Arm, arm_of}
use Rattle.plain_entries.specs.Gather.{composite_of}
use Rattle.plain_entries.specs.Entries.{answer_of, along, with_own, entry_between, root_answer, number_of}
use Rattle.plain_entries.proofs.Ups.{own, not_own}
use Rattle.matrix_columns.specs.Walk.{walk_of, base_rows, column_visit}
use Rattle.matrix_columns.proofs.Holds.{Holds, holds_kept}
use Rattle.matrix_columns.proofs.Walks.{Active, row_for, row_small, row_one, along-above, Beside, Walked, walk-done}

same_or_not : (i j : ℕ) → (i ≡ j) ⊎ (i ≡ j → ⊥)
same_or_not i j = go (eqb i j) (eqb-true i j) (eqb-false i j)
  where
    go : (b : Bool) → (b ≡ true → i ≡ j) → (b ≡ false → i ≡ j → ⊥) → (i ≡ j) ⊎ (i ≡ j → ⊥)
    go true e f = inl (e refl)
    go false e f = inr (f refl)

-- ---- the base's rows of one column

-- a wrench's first k numbers in the first rows of a column, with their mirrors
unfoldable six_to : Plan → ℕ → Wrench → ℕ → List Float → List Float
six_to p column w zero ws = ws
six_to p column w (suc k) ws = put_pair p k column (number_of w k) (six_to p column w k ws)

six-is : (p : Plan) (column : ℕ) (w : Wrench) (ws : List Float) → put_six p column w ws ≡ six_to p column w 6 ws
unfolding put_six six_to number_of
six-is p column w ws = refl

module _ (p : Plan) (a : Arm) (c : ℕ → Link) (column : ℕ) (w : Wrench) (ws : List Float) (h : 6 ≤ column) (inside : column < p.side) where
  record Six (k : ℕ) (t : List Float) : Type 0 where
    pub holds : Holds p a p.n c t
    pub rows : (i : ℕ) → i < k → (b : Bool) → get_or t (facing p b i column) nan ≡ number_of w i
    pub other : (row column' : ℕ) → row < p.side → column' < p.side → (row < k → column' ≡ column → ⊥) → (column' < k → row ≡ column → ⊥) → (b : Bool)
        → get_or t (facing p b row column') nan ≡ get_or ws (facing p b row column') nan

  six-done : (k : ℕ) → k ≤ 6 → Holds p a p.n c ws → Six k (six_to p column w k ws)
  unfolding six_to
  six-done zero g s = record { holds = s; rows = λ i f b. absurd (omega arith); other = λ row column' x y e f b. refl }
  six-done (suc k) g s =
      let e = six-done k (omega arith) s in
      let t = six_to p column w k ws in
      let small : k < p.side = omega arith in
      record {
        holds = holds_kept p a c (pair-outside p k column (number_of w k) t small inside) (length-put_pair p k column (number_of w k) t) e.holds;
        rows = λ i f b. ⊎_elim
            (λ (d : i ≡ k). rw d (pair_put p k column (number_of w k) t small inside e.holds.room b))
            (λ d. pair-away p k column (number_of w k) t small inside i column (omega arith) inside (λ x y. omega arith) (λ x y. omega arith) b ∙ e.rows i d b) (or-less k i f);
        other = λ row column' x y f f' b.
            pair-away p k column (number_of w k) t small inside row column' x y (λ u v. f (omega arith) v) (λ u v. f' (omega arith) u) b
            ∙ e.other row column' x y (λ u v. f (omega arith) v) (λ u v. f' (omega arith) v) b;
      }

  six-put : Holds p a p.n c ws → Six 6 (put_six p column w ws)
  six-put s = rw (six-is p column w ws) (six-done 6 (omega arith) s)

-- ---- all columns

module _ (p : Plan) (r : Quaternion) (m : Model) (q : List Float) where
  abbrev arm : Arm
  arm = arm_of m q

  abbrev row : ℕ → ℕ
  row = row_for p m.kinds

  abbrev number : ℕ → ℕ
  number = actives_of m.kinds

  -- the columns of active numbers below c are done, and the others not begun
  pub record Joints (c : ℕ) (ws : List Float) : Type 0 where
    pub holds : Holds p (arm_of m q) p.n (composite_of (arm_of m q)) ws
    pub entries : (J I : ℕ) → J < p.n → I ≤ J → Active m.kinds J → Active m.kinds I → number J < c → (b : Bool) → get_or ws (facing p b (row I) (row J)) nan ≡ entry_between (arm_of m q) J I
    pub blanks : (J I : ℕ) → J < p.n → I ≤ J → Active m.kinds J → Active m.kinds I → c ≤ number J → (b : Bool) → get_or ws (facing p b (row I) (row J)) nan ≡ 0·0

  -- the base's rows of those columns
  pub record Rows (c : ℕ) (ws : List Float) : Type 0 where
    pub rows : (p.lead ≡ 0 → ⊥) → (J : ℕ) → J < p.n → Active m.kinds J → number J < c → (k : ℕ) → k < 6 → (b : Bool)
        → get_or ws (facing p b k (row J)) nan ≡ number_of (rotated_of (root_answer (arm_of m q) J) r) k

  module _ (fit : Fit p m.parents m.kinds (active_numbers m.kinds)) (joints : m.n ≡ p.n) where
    small : (j : ℕ) → j < p.n → Active m.kinds j → row j < p.side
    small = row_small p m.kinds fit.sided

    six : (p.lead ≡ 0 → ⊥) → p.lead ≡ 6
    six z = omega (arith, fit.led, fit.whole z)

    below : (j : ℕ) → j < arm.n → arm.parent j ≤ j
    below j g = fit.good.tree.below j (omega arith)

    -- active numbers rise with the joints
    rising : (I J : ℕ) → I ≤ J → Active m.kinds I → number I ≤ number J
    rising I J h f = ⊎_elim (λ (e : I ≡ J). omega (arith, ap number e)) (λ g. omega (arith, actives-below m.kinds J I g f)) (eq-or-lt_of_le h)

    module _ (J : ℕ) (h : J < p.n) (act : Active m.kinds J) where
      -- the column with its rotor: what stands at joint i's entry after it, by what stood there
      abbrev after : ℕ → Float → Float
      after i x = with_own arm J i (along arm x (suc J) J i (answer_of arm J))

      record Turned (ws : List Float) (t : Wrench × List Float) : Type 0 where
        pub holds : Holds p arm p.n (composite_of arm) t.1
        pub up : t.0 ≡ root_answer arm J
        pub met : (i : ℕ) → i < p.n → Active m.kinds i → (b : Bool) → get_or t.1 (facing p b (row i) (row J)) nan ≡ after i (get_or ws (facing p b (row i) (row J)) nan)
        pub other : Beside p m q (composite_of arm) (row J) ws t.1

      rotor-done : (ws : List Float) (t : Wrench × List Float) → Walked p m q (composite_of arm) (row J) (suc J) J (answer_of arm J) ws t → Turned ws (t.0, add_rotor p (row J) (arm.rotor J) t.1)
      rotor-done ws t w =
          let mine = small J h act in
          record {
            holds = holds_kept p arm (composite_of arm) (rotor-outside p (row J) (arm.rotor J) t.1 mine) (length-add_rotor p (row J) (arm.rotor J) t.1) w.holds;
            up = w.up;
            met = λ i g f b. ⊎_elim
                (λ (e : J ≡ i). rw (← e) (rotor-put p (row J) (arm.rotor J) t.1 mine w.holds.room b ∙ ap (with_rotor (arm.rotor J)) (w.met J h act b) ∙ own (arm.rotor J) _ J J refl))
                (λ e. rotor-away p (row J) (arm.rotor J) t.1 mine (row i) (row J) (small i g f) mine (λ x y. e (sym (row_one p m.kinds i J f act x))) b
                ∙ w.met i g f b ∙ not_own (arm.rotor J) _ J i e) (same_or_not J i);
            other = λ r' c' x y f g b. rotor-away p (row J) (arm.rotor J) t.1 mine r' c' x y (λ d e. f d) b ∙ w.other r' c' x y f g b;
          }

      module _ (ws : List Float) (s : Joints (number J) ws) (t : Wrench × List Float) (w : Turned ws t) where
        abbrev c : ℕ
        c = number J

        -- a joint of a later column has a higher number
        later : (K : ℕ) → Active m.kinds K → suc c ≤ number K → J < K
        later K f n = ⊎_elim (λ g. g) (λ g. absurd (omega (arith, rising K J g f))) (split J K)

        -- and its entry in this column, which is none of the walk's, stays
        after-later : (K : ℕ) → Active m.kinds K → suc c ≤ number K → (x : Float) → after K x ≡ x
        after-later K f n x =
            let l = later K f n in
            sym (not_own (arm.rotor J) _ J K (λ e. omega arith)) ∙ along-above arm below K x (suc J) J (answer_of arm J) (omega arith) l

        named : (K : ℕ) → Active m.kinds K → number K ≡ c → K ≡ J
        named K f e = row_one p m.kinds K J f act (ap (λ (x : ℕ). p.lead + x) e)

        joints-turned : Joints (suc c) t.1
        joints-turned = record {
          holds = w.holds;
          entries = λ K I g l f f' n b. ⊎_elim
              (λ (e : number K ≡ c). rw (named K f e) (w.met I (omega (arith, named K f e)) f' b ∙ ap (after I) (s.blanks J I h (omega (arith, named K f e)) act f' (omega arith) b)))
              (λ g'. w.other (row I) (row K) (small I (omega arith) f') (small K g f) (λ x. omega (arith, rising I K l f')) (λ x. omega arith) b ∙ s.entries K I g l f f' g' b)
              (or-less c (number K) n);
          blanks = λ K I g l f f' n b. ⊎_elim
              (λ (e : I ≡ J). rw (e, facing-flips p b (row J) (row K))
              (w.met K g f (not b) ∙ after-later K f n _ ∙ rw (← facing-flips p b (row J) (row K)) (s.blanks K J g (omega (arith, later K f n)) f act (omega arith) b)))
              (λ e. w.other (row I) (row K) (small I (omega arith) f') (small K g f) (λ x. e (row_one p m.kinds I J f' act x)) (λ x. omega arith) b ∙ s.blanks K I g l f f' (omega arith) b)
              (same_or_not I J);
        }

        rows-turned : Rows c ws → Rows c t.1
        rows-turned x = record {
          rows = λ z K g f n k l b. let e = six z in w.other k (row K) (omega (arith, small K g f)) (small K g f) (λ y. omega arith) (λ y. omega arith) b ∙ x.rows z K g f n k l b;
        }

        abbrev full : List Float
        full = put_six p (row J) (rotated_of t.0 r) t.1

        module _ (z : p.lead ≡ 0 → ⊥) where
          six-column : Six p arm (composite_of arm) (row J) (rotated_of t.0 r) t.1 (omega (arith, six z)) (small J h act) 6 full
          six-column = six-put p arm (composite_of arm) (row J) (rotated_of t.0 r) t.1 (omega (arith, six z)) (small J h act) w.holds

          -- the base's rows leave the entries between joints
          joints-six : Joints (suc c) full
          joints-six =
              let e = six z in
              let u = six-column in
              let v = joints-turned in
              record {
                holds = u.holds;
                entries = λ K I g l f f' n b. u.other (row I) (row K) (small I (omega arith) f') (small K g f) (λ x y. omega arith) (λ x y. omega arith) b ∙ v.entries K I g l f f' n b;
                blanks = λ K I g l f f' n b. u.other (row I) (row K) (small I (omega arith) f') (small K g f) (λ x y. omega arith) (λ x y. omega arith) b ∙ v.blanks K I g l f f' n b;
              }

          rows-six : Rows c ws → Rows (suc c) full
          rows-six x =
              let e = six z in
              let u = six-column in
              record {
                rows = λ y K g f n k l b. ⊎_elim
                    (λ (d : number K ≡ c). rw (named K f d) (u.rows k l b ∙ ap (λ (v : Wrench). number_of (rotated_of v r) k) w.up))
                    (λ g'. u.other k (row K) (omega (arith, small K g f)) (small K g f) (λ i j. omega arith) (λ i j. omega arith) b ∙ (rows-turned x).rows y K g f g' k l b)
                    (or-less c (number K) n);
              }

        -- either root
        column-based : Rows c ws → Joints (suc c) (base_rows p r (row J) t) × Rows (suc c) (base_rows p r (row J) t)
        unfolding base_rows
        column-based b = go (eqb p.lead 0) (eqb-true p.lead 0) (eqb-false p.lead 0)
          where
            go : (x : Bool) → (x ≡ true → p.lead ≡ 0) → (x ≡ false → p.lead ≡ 0 → ⊥) → Joints (suc c) (cond x t.1 full) × Rows (suc c) (cond x t.1 full)
            go true e f = (joints-turned, record { rows = λ z. absurd (z (e refl)) })
            go false e f = (joints-six (f refl), rows-six (f refl) b)

    -- ONE COLUMN VISIT: one column more is done
    pub column-done : (J : ℕ) → J < p.n → Active m.kinds J → (ws : List Float) → Joints (number J) ws → Rows (number J) ws
        → Joints (suc (number J)) (column_visit p r m.parents m.kinds m.axes m.rotors J ws) × Rows (suc (number J)) (column_visit p r m.parents m.kinds m.axes m.rotors J ws)
    unfolding column_visit walk_of
    column-done J h act ws s b =
        rw (s.holds.composites J h)
        (column-based J h act ws s _ (rotor-done J h act ws _ (walk-done p m q (composite_of arm) (row J) fit joints (small J h act) (suc J) J (answer_of arm J) ws h s.holds)) b)
