-- The walk of one column: every joint that is met has its entry and the mirror, and nothing else changes. Assumes nothing.
use mathlib.Core.Bool.{Bool, true, false, cond}
use mathlib.Core.List.{List}
use mathlib.Core.Logic.{⊎_elim}
use mathlib.Core.Path.{◌≡◌, refl, sym, ap, ◌∙◌}
use Prim.Native.Nat.{ℕ, zero, suc, ◌+◌, ◌-◌, ◌*◌, ◌≤◌, ◌<◌}
use native.Mathlib.Nat.{eq-or-lt_of_le}
use native.Mathlib.Omega.{arith}
use borrow.Author.Tests.{eqb-true, eqb-false, ne_eqb}
use lib.Dec.{eqb}
use lib.ListN.{get_or}
use lib.Ieee.{Float, nan}
use Rattle.spatial.specs.Operators.{wrench_to_parent}
use Rattle.spatial.specs.declared.frame.Frame.{Frame}
use Rattle.spatial.specs.declared.wrench.Wrench.{Wrench}
use Rattle.slots.specs.Slots.{vec3_at, frame_at}
use Rattle.slots.proofs.Blocks.{split}
use Rattle.arm.specs.Joint.{motion_by}
use Rattle.arm.specs.Model.{kind_of, motion_of}
use Rattle.arm.specs.Topology.{actives_of, active_numbers}
use Rattle.arm.specs.declared.model.Link.{Link}
use Rattle.arm.specs.declared.model.Model.{Model}
use Rattle.arm.proofs.topology.Counts.{actives-below}
use Rattle.calls.specs.Plan.{Fit}
use Rattle.calls.specs.declared.plan.Plan.{Plan}
use Rattle.composites.specs.Composite.{entry_of}
use Rattle.composites.specs.Plan.{frame_place, put_pair}
use Rattle.composites.proofs.Entries.{facing, pair_put, pair-away, pair-outside, length-put_pair}
use Rattle.plain_entries.specs.Arm.{Arm, arm_of}
use Rattle.plain_entries.specs.Entries.{along, to_root}
use Rattle.plain_entries.proofs.Depths.{either}
use Rattle.matrix_columns.specs.Walk.{put_entry, put_here, walk_step, climb}
use Rattle.matrix_columns.proofs.Holds.{Holds, holds_kept}

-- ---- rows of active joints

abbrev pub Active : List ℕ → ℕ → Type 0
Active kinds j = kind_of kinds j ≡ 2 → ⊥

abbrev pub row_for : Plan → List ℕ → ℕ → ℕ
row_for p kinds j = p.lead + actives_of kinds j

module _ (p : Plan) (kinds : List ℕ) (sided : p.side ≡ p.lead + actives_of kinds p.n) where
  pub row_small : (j : ℕ) → j < p.n → Active kinds j → row_for p kinds j < p.side
  row_small j h f = omega (arith, actives-below kinds p.n j h f)

-- one row is one joint
pub row_one : (p : Plan) (kinds : List ℕ) (i j : ℕ) → Active kinds i → Active kinds j → row_for p kinds i ≡ row_for p kinds j → i ≡ j
row_one p kinds i j f g e =
    ⊎_elim (λ h. absurd (omega (arith, actives-below kinds j i h f)))
    (λ h. ⊎_elim (λ (d : j ≡ i). sym d) (λ h. absurd (omega (arith, actives-below kinds i j h g))) (eq-or-lt_of_le h)) (split i j)

-- ---- the walk's values

module _ (a : Arm) (below : (j : ℕ) → j < a.n → a.parent j ≤ j) (i : ℕ) where
  -- a joint above is not met
  pub along-above : (other : Float) (k j : ℕ) (w : Wrench) → j < a.n → j < i → along a other k j i w ≡ other
  unfolding along
  along-above other zero j w g h = refl
  along-above other (suc k) j w g h =
      let low = below j g in
      rw (ne_eqb j i (λ e. omega arith))
      (either (eqb (a.parent j) 0) (λ t. refl)
      (λ t. let z = eqb-false (a.parent j) 0 t in along-above other k (a.parent j - 1) (wrench_to_parent (a.frame j) w) (omega arith) (omega arith)))

  -- one joint of the walk: d is what stood at joint i's place, d' what stands there after joint j was dealt with
  along-step : (d d' : Float) (k j : ℕ) (w : Wrench) → j < a.n → (j ≡ i → d' ≡ entry_of (a.motion i) w) → ((j ≡ i → ⊥) → d' ≡ d)
      → cond (eqb (a.parent j) 0) d' (along a d' k (a.parent j - 1) i (wrench_to_parent (a.frame j) w)) ≡ along a d (suc k) j i w
  unfolding along
  along-step d d' k j w g f f' = go (eqb j i) (eqb-true j i) (eqb-false j i)
    where
      up : Wrench
      up = wrench_to_parent (a.frame j) w

      go : (b : Bool) → (b ≡ true → j ≡ i) → (b ≡ false → j ≡ i → ⊥)
          → cond (eqb (a.parent j) 0) d' (along a d' k (a.parent j - 1) i (wrench_to_parent (a.frame j) w))
          ≡ cond b (entry_of (a.motion i) w) (cond (eqb (a.parent j) 0) d (along a d k (a.parent j - 1) i (wrench_to_parent (a.frame j) w)))
      go true e e' =
          let z = e refl in
          let low = below j g in
          either (eqb (a.parent j) 0) (λ t. f z)
          (λ t. let y = eqb-false (a.parent j) 0 t in along-above d' k (a.parent j - 1) (wrench_to_parent (a.frame j) w) (omega arith) (omega arith) ∙ f z)
      go false e e' = ap (λ (x : Float). cond (eqb (a.parent j) 0) x (along a x k (a.parent j - 1) i (wrench_to_parent (a.frame j) w))) (f' (e' refl))

-- ---- the walk's workspace

module _ (p : Plan) (m : Model) (q : List Float) (c : ℕ → Link) (column : ℕ) where
  -- where a number stands that belongs to joint i and the column: its entry, or the mirror
  abbrev spot : Bool → ℕ → ℕ
  spot b i = facing p b (row_for p m.kinds i) column

  -- t has the numbers of ws but in the column and its mirror
  abbrev pub Beside : List Float → List Float → Type 0
  Beside ws t = (row column' : ℕ) → row < p.side → column' < p.side → (row ≡ column → ⊥) → (column' ≡ column → ⊥) → (b : Bool)
      → get_or t (facing p b row column') nan ≡ get_or ws (facing p b row column') nan

  -- t, after the walk from joint j with w and ws, at most k joints
  pub record Walked (k j : ℕ) (w : Wrench) (ws : List Float) (t : Wrench × List Float) : Type 0 where
    pub holds : Holds p (arm_of m q) p.n c t.1
    pub up : t.0 ≡ to_root (arm_of m q) k j w
    pub met : (i : ℕ) → i < p.n → Active m.kinds i → (b : Bool) → get_or t.1 (spot b i) nan ≡ along (arm_of m q) (get_or ws (spot b i) nan) k j i w
    pub other : Beside ws t.1

  -- after one joint's entry
  record Put (j : ℕ) (w : Wrench) (ws t : List Float) : Type 0 where
    pub holds : Holds p (arm_of m q) p.n c t
    pub here : (i : ℕ) → i < p.n → Active m.kinds i → (b : Bool) → j ≡ i → get_or t (spot b i) nan ≡ entry_of ((arm_of m q).motion i) w
    pub away : (i : ℕ) → i < p.n → Active m.kinds i → (b : Bool) → (j ≡ i → ⊥) → get_or t (spot b i) nan ≡ get_or ws (spot b i) nan
    pub other : Beside ws t

  module _ (fit : Fit p m.parents m.kinds (active_numbers m.kinds)) (joints : m.n ≡ p.n) (inside : column < p.side) where
    abbrev arm : Arm
    arm = arm_of m q

    abbrev row : ℕ → ℕ
    row = row_for p m.kinds

    small : (j : ℕ) → j < p.n → Active m.kinds j → row j < p.side
    small = row_small p m.kinds fit.sided

    -- an active joint's entry
    put-active : (j : ℕ) (w : Wrench) (ws : List Float) → j < p.n → Active m.kinds j → Holds p arm p.n c ws → Put j w ws (put_pair p (row j) column (entry_of (arm.motion j) w) ws)
    put-active j w ws h act s =
        let v = entry_of (arm.motion j) w in
        let own = small j h act in
        record {
          holds = holds_kept p arm c (pair-outside p (row j) column v ws own inside) (length-put_pair p (row j) column v ws) s;
          here = λ i g f b z. rw (← z) (pair_put p (row j) column v ws own inside s.room b);
          away = λ i g f b z.
              pair-away p (row j) column v ws own inside (row i) column (small i g f) inside
              (λ x y. z (sym (row_one p m.kinds i j f act x))) (λ x y. z (sym (row_one p m.kinds i j f act (x ∙ y)))) b;
          other = λ r' c' x y f g b. pair-away p (row j) column v ws own inside r' c' x y (λ d e. g e) (λ d e. f d) b;
        }

    -- a fixed joint has none
    put-none : (j : ℕ) (w : Wrench) (ws : List Float) → kind_of m.kinds j ≡ 2 → Holds p arm p.n c ws → Put j w ws ws
    put-none j w ws e s =
        record {
          holds = s;
          here = λ i g f b z. absurd (f (ap (kind_of m.kinds) (sym z) ∙ e));
          away = λ i g f b z. refl;
          other = λ r' c' x y f g b. refl;
        }

    put-done : (j : ℕ) (w : Wrench) (ws : List Float) → j < p.n → Holds p arm p.n c ws → Put j w ws (put_here p m.kinds m.axes column j w ws)
    unfolding motion_of motion_by put_entry
    put-done j w ws h s = go (kind_of m.kinds j) refl
      where
        go : (kind : ℕ) → kind_of m.kinds j ≡ kind → Put j w ws (put_entry p (motion_by kind (vec3_at m.axes (j * 3))) (row j) column (entry_of (motion_by (kind_of m.kinds j) (vec3_at m.axes (j * 3))) w) ws)
        go zero e = put-active j w ws h (λ z. omega (arith, e, z)) s
        go (suc zero) e = put-active j w ws h (λ z. omega (arith, e, z)) s
        go (suc (suc zero)) e = put-none j w ws e s
        go (suc (suc (suc kind))) e = absurd (omega (arith, e, fit.good.known j h))

    abbrev act : ℕ → Wrench × List Float → Wrench × List Float
    act = walk_step p m.kinds m.axes column

    -- the walk ends at a joint on the root, or goes on
    walk-by : (k j : ℕ) (w : Wrench) (ws : List Float) → j < p.n → Holds p arm p.n c ws
        → ((w' : Wrench) (ws' : List Float) → (arm.parent j ≡ 0 → ⊥) → Holds p arm p.n c ws' → Walked k (arm.parent j - 1) w' ws' (climb arm.parent act k (arm.parent j - 1) (w', ws')))
        → Walked (suc k) j w ws (climb arm.parent act (suc k) j (w, ws))
    unfolding climb walk_step to_root
    walk-by k j w ws h s more = go (eqb (arm.parent j) 0) refl
      where
        ws' : List Float
        ws' = put_here p m.kinds m.axes column j w ws

        put : Put j w ws ws'
        put = put-done j w ws h s

        w' : Wrench
        w' = wrench_to_parent (frame_at ws' (frame_place j)) w

        carried : w' ≡ wrench_to_parent (arm.frame j) w
        carried = ap (λ (f : Frame). wrench_to_parent f w) (put.holds.frames j h)

        step : (i : ℕ) → i < p.n → Active m.kinds i → (b : Bool)
            → cond (eqb (arm.parent j) 0) (get_or ws' (spot b i) nan) (along arm (get_or ws' (spot b i) nan) k (arm.parent j - 1) i (wrench_to_parent (arm.frame j) w)) ≡ along arm (get_or ws (spot b i) nan) (suc k) j i w
        step i g f b = along-step arm (λ j g. fit.good.tree.below j (omega arith)) i (get_or ws (spot b i) nan) (get_or ws' (spot b i) nan) k j w (omega arith) (put.here i g f b) (put.away i g f b)

        go : (x : Bool) → eqb (arm.parent j) 0 ≡ x → Walked (suc k) j w ws (cond (eqb (arm.parent j) 0) (w', ws') (climb arm.parent act k (arm.parent j - 1) (w', ws')))
        go true e = rw e (record { holds = put.holds; up = carried ∙ rw e; met = λ i g f b. rw e at (step i g f b); other = put.other })
        go false e =
            let r = more w' ws' (eqb-false (arm.parent j) 0 e) put.holds in
            rw e (record {
              holds = r.holds;
              up = r.up ∙ ap (to_root arm k (arm.parent j - 1)) carried ∙ rw e;
              met = λ i g f b. r.met i g f b ∙ ap (along arm (get_or ws' (spot b i) nan) k (arm.parent j - 1) i) carried ∙ rw e at (step i g f b);
              other = λ r' c' x y f g b. r.other r' c' x y f g b ∙ put.other r' c' x y f g b;
            })

    pub walk-done : (k j : ℕ) (w : Wrench) (ws : List Float) → j < p.n → Holds p arm p.n c ws → Walked k j w ws (climb arm.parent act k j (w, ws))
    unfolding climb to_root along
    walk-done zero j w ws h s = record { holds = s; up = refl; met = λ i g f b. refl; other = λ r' c' x y f g b. refl }
    walk-done (suc k) j w ws h s = walk-by k j w ws h s (λ w' ws' z s'. walk-done k (arm.parent j - 1) w' ws' (omega (arith, fit.good.tree.below j h)) s')
