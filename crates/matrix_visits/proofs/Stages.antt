-- The visits before the columns: what each composite holds while its children are added, from the highest joint to the lowest. Assumes nothing.
use mathlib.Core.Bool.{Bool, true, false, cond}
use mathlib.Core.List.{List}
use mathlib.Core.Logic.{⊎_elim}
use mathlib.Core.Path.{◌≡◌, refl, sym, ap, ◌∙◌}
use Prim.Native.Nat.{ℕ, zero, suc, ◌+◌, ◌-◌, ◌*◌, ◌≤◌, ◌<◌}
use native.Mathlib.Numerals.{add-one}
use native.Mathlib.Omega.{arith}
use borrow.Author.Tests.{eqb-true, eqb-false, eq-eqb, ne_eqb, lt-ltb, le-ltb}
use lib.Dec.{eqb}
use lib.ListN.{length, get_or}
use lib.Ieee.{Float, nan}
use Rattle.numbers.specs.Double.{0·0}
use Rattle.numbers.specs.declared.quaternion.Quaternion.{Quaternion}
use Rattle.spatial.specs.declared.frame.Frame.{Frame}
use Rattle.slots.specs.Slots.{frame_at, put_frame, zero_to}
use Rattle.slots.proofs.Lengths.{length-put_frame, length-zero_to}
use Rattle.slots.proofs.Blocks.{Outside, wider, before, behind, both, untouched, split, or-less, put_frame-outside, frame_same}
use Rattle.slots.proofs.Puts.{frame-put, zeroed}
use Rattle.arm.specs.Model.{link_of, Tree}
use Rattle.arm.specs.Topology.{joint_frame}
use Rattle.arm.specs.declared.model.Link.{Link}
use Rattle.arm.specs.declared.model.Model.{Model}
use Rattle.calls.specs.declared.plan.Plan.{Plan}
use Rattle.composites.specs.Composite.{composite_at, put_composite, to_parent_of, joined_of}
use Rattle.composites.specs.Plan.{frame_place, composite_place, root_place, matrix_place, room_of}
use Rattle.composites.proofs.Blocks.{length-put_composite, put_composite-outside, composite-same, composite-put}
use Rattle.plain_entries.specs.Arm.{Arm, arm_of}
use Rattle.plain_entries.specs.Gather.{gather, gives, composite_of}
use Rattle.plain_entries.proofs.Depths.{choice, composite-is, composite-done}
use Rattle.matrix_columns.proofs.Holds.{Holds}
use Rattle.matrix_visits.specs.Kernel.{begun_of, frame_visit, add_into, composite_visit, joint_visit}

-- every entry is +0.0
abbrev pub Blank : Plan → List Float → Type 0
Blank p ws = (i : ℕ) → matrix_place p.n ≤ i → i < room_of p → get_or ws i nan ≡ 0·0

-- what is written among the joints and the root leaves the entries
blank-kept : (p : Plan) {ws ws' : List Float} → Outside 0 (matrix_place p.n) ws ws' → Blank p ws → Blank p ws'
blank-kept p o b i h g = o.kept i (λ x y. omega arith) ∙ b i h g

-- ---- the beginning

module _ (p : Plan) (m : Model) (q : List Float) (ws : List Float) (room : room_of p ≤ length ws) where
  abbrev zeros : List Float
  zeros = zero_to ws (matrix_place p.n) (p.side * p.side)

  begun-blank : Blank p (begun_of p m.links 0 ws)
  unfolding begun_of
  begun-blank = go (eqb p.lead 0)
    where
      go : (b : Bool) → Blank p (cond b zeros (put_composite zeros (root_place p.n) (link_of m.links 0)))
      go true i h g = zeroed ws (matrix_place p.n) (p.side * p.side) room i h g
      go false i h g = (put_composite-outside zeros (root_place p.n) (link_of m.links 0)).kept i (λ x y. omega arith) ∙ zeroed ws (matrix_place p.n) (p.side * p.side) room i h g

  begun-holds : Holds p (arm_of m q) 0 (link_of m.links) (begun_of p m.links 0 ws)
  unfolding begun_of
  begun-holds = go (eqb p.lead 0) (λ t. eqb-true p.lead 0 t)
    where
      go : (b : Bool) → (b ≡ true → p.lead ≡ 0) → Holds p (arm_of m q) 0 (link_of m.links) (cond b zeros (put_composite zeros (root_place p.n) (link_of m.links 0)))
      go true f = record {
        room = omega (arith, length-zero_to ws (matrix_place p.n) (p.side * p.side));
        frames = λ j h. absurd (omega arith);
        composites = λ j h. absurd (omega arith);
        base = λ z. absurd (z (f refl));
      }
      go false f = let l = length-zero_to ws (matrix_place p.n) (p.side * p.side) in record {
        room = omega (arith, length-put_composite zeros (root_place p.n) (link_of m.links 0));
        frames = λ j h. absurd (omega arith);
        composites = λ j h. absurd (omega arith);
        base = λ z. composite-put zeros (root_place p.n) (link_of m.links 0) (omega arith);
      }

-- ---- frame visits

module _ (p : Plan) (m : Model) (q : List Float) (j : ℕ) (ws : List Float) where
  abbrev frame_on : ℕ → Frame
  frame_on = joint_frame m.parents m.kinds m.origins m.axes q

  abbrev framed : List Float
  framed = put_frame ws (frame_place j) (frame_on j)

  frame-visit : frame_visit m.parents m.kinds m.origins m.axes m.links q j ws ≡ put_composite framed (composite_place j) (link_of m.links (suc j))
  unfolding frame_visit
  frame-visit = rw add-one

  frame-outside : Outside (frame_place j) 20 ws (frame_visit m.parents m.kinds m.origins m.axes m.links q j ws)
  frame-outside =
      rw frame-visit
      (both (wider (put_frame-outside ws (frame_place j) (frame_on j)) (omega arith) (omega arith))
      (wider (put_composite-outside framed (composite_place j) (link_of m.links (suc j))) (omega arith) (omega arith)))

  frame-blank : j < p.n → Blank p ws → Blank p (frame_visit m.parents m.kinds m.origins m.axes m.links q j ws)
  frame-blank h b = blank-kept p (wider frame-outside (omega arith) (omega arith)) b

  frame-holds : j < p.n → Holds p (arm_of m q) j (link_of m.links) ws → Holds p (arm_of m q) (suc j) (link_of m.links) (frame_visit m.parents m.kinds m.origins m.axes m.links q j ws)
  frame-holds h s =
      let o = frame-outside in
      let l1 = length-put_frame ws (frame_place j) (frame_on j) in
      let l2 = length-put_composite framed (composite_place j) (link_of m.links (suc j)) in
      let fit = s.room in
      record {
        room = omega (arith, ap (length {A = Float}) frame-visit);
        frames = λ i g. ⊎_elim
            (λ (e : i ≡ j). rw (e, frame-visit) (frame_same framed _ (frame_place j) (before (put_composite-outside framed (composite_place j) (link_of m.links (suc j))) (frame_place j) 7 (omega arith))
            ∙ frame-put ws (frame_place j) (frame_on j) (omega arith)))
            (λ g'. frame_same ws _ (frame_place i) (before o (frame_place i) 7 (omega arith)) ∙ s.frames i g') (or-less j i g);
        composites = λ i g. ⊎_elim
            (λ (e : i ≡ j). rw (e, frame-visit) (composite-put framed (composite_place j) (link_of m.links (suc j)) (omega arith)))
            (λ g'. composite-same ws _ (composite_place i) (before o (composite_place i) 13 (omega arith)) ∙ s.composites i g') (or-less j i g);
        base = λ z. composite-same ws _ (root_place p.n) (behind o (root_place p.n) 13 (omega arith)) ∙ s.base z;
      }

-- ---- composite visits

meant : (p : Plan) (a : Arm) (k : ℕ) (c d : ℕ → Link) (ws : List Float) → ((l : ℕ) → c l ≡ d l) → Holds p a k c ws → Holds p a k d ws
meant p a k c d ws e s = record {
  room = s.room;
  frames = s.frames;
  composites = λ j h. s.composites j h ∙ e (suc j);
  base = λ z. s.base z ∙ e 0;
}

module _ (p : Plan) (a : Arm) (c d : ℕ → Link) (ws : List Float) (s : Holds p a p.n c ws) (v : Link) where
  into-base : d 0 ≡ v → ((i : ℕ) → d (suc i) ≡ c (suc i)) → Holds p a p.n d (put_composite ws (root_place p.n) v)
  into-base e f =
      let o = put_composite-outside ws (root_place p.n) v in
      let fit = s.room in
      record {
        room = omega (arith, length-put_composite ws (root_place p.n) v);
        frames = λ i h. frame_same ws _ (frame_place i) (before o (frame_place i) 7 (omega arith)) ∙ s.frames i h;
        composites = λ i h. composite-same ws _ (composite_place i) (before o (composite_place i) 13 (omega arith)) ∙ s.composites i h ∙ sym (f i);
        base = λ z. composite-put ws (root_place p.n) v (omega arith) ∙ sym e;
      }

  into-joint : (u : ℕ) → u < p.n → d (suc u) ≡ v → ((l : ℕ) → (l ≡ suc u → ⊥) → d l ≡ c l) → Holds p a p.n d (put_composite ws (composite_place u) v)
  into-joint u h e f =
      let o = put_composite-outside ws (composite_place u) v in
      let fit = s.room in
      record {
        room = omega (arith, length-put_composite ws (composite_place u) v);
        frames = λ i g. ⊎_elim
            (λ x. frame_same ws _ (frame_place i) (before o (frame_place i) 7 (omega arith)))
            (λ x. frame_same ws _ (frame_place i) (behind o (frame_place i) 7 (omega arith))) (split i (suc u)) ∙ s.frames i g;
        composites = λ i g. ⊎_elim
            (λ x. ⊎_elim
            (λ (y : i ≡ u). rw y (composite-put ws (composite_place u) v (omega arith) ∙ sym e))
            (λ y. composite-same ws _ (composite_place i) (before o (composite_place i) 13 (omega arith)) ∙ s.composites i g ∙ sym (f (suc i) (λ z. omega arith))) (or-less u i x))
            (λ x. composite-same ws _ (composite_place i) (behind o (composite_place i) 13 (omega arith)) ∙ s.composites i g ∙ sym (f (suc i) (λ z. omega arith))) (split i (suc u));
        base = λ z. composite-same ws _ (root_place p.n) (behind o (root_place p.n) 13 (omega arith)) ∙ s.base z ∙ sym (f 0 (λ z. omega arith));
      }

-- joint j's composite goes to the link that it stands on
abbrev pub added : Arm → (ℕ → Link) → ℕ → ℕ → Link
added a c j l = cond (eqb (a.parent j) l) (joined_of (c l) (gives a c j)) (c l)

module _ (p : Plan) (a : Arm) (c : ℕ → Link) (j : ℕ) (ws : List Float) (s : Holds p a p.n c ws) (h : j < p.n) (low : a.parent j ≤ j) where
  sum_is : (l at : ℕ) → composite_at ws at ≡ c l → joined_of (composite_at ws at) (to_parent_of (composite_at ws (composite_place j)) (frame_at ws (frame_place j))) ≡ joined_of (c l) (gives a c j)
  sum_is l at e = λ k. joined_of (e k) (to_parent_of (s.composites j h k) (s.frames j h k))

  added-here : (l : ℕ) → a.parent j ≡ l → added a c j l ≡ joined_of (c l) (gives a c j)
  added-here l e = rw (eq-eqb (a.parent j) l e)

  added-not : (l : ℕ) → (a.parent j ≡ l → ⊥) → added a c j l ≡ c l
  added-not l e = rw (ne_eqb (a.parent j) l e)

  composite-holds : Holds p a p.n (added a c j) (composite_visit p (a.parent j) j ws)
  unfolding composite_visit add_into
  composite-holds = go (eqb (a.parent j) 0) (eqb p.lead 0) (eqb-true (a.parent j) 0) (eqb-false (a.parent j) 0) (eqb-true p.lead 0) (eqb-false p.lead 0)
    where
      go : (b b' : Bool) → (b ≡ true → a.parent j ≡ 0) → (b ≡ false → a.parent j ≡ 0 → ⊥) → (b' ≡ true → p.lead ≡ 0) → (b' ≡ false → p.lead ≡ 0 → ⊥)
          → Holds p a p.n (added a c j) (cond b (cond b' ws (add_into (root_place p.n) j ws)) (add_into (composite_place (a.parent j - 1)) j ws))
      go true true e f e' f' =
          let z = e refl in
          record { room = s.room; frames = s.frames; composites = λ i g. s.composites i g ∙ sym (added-not (suc i) (λ y. omega arith)); base = λ y. absurd (y (e' refl)) }
      go true false e f e' f' =
          let z = e refl in
          into-base p a c (added a c j) ws s _ (added-here 0 z ∙ sym (sum_is 0 (root_place p.n) (s.base (f' refl)))) (λ i. added-not (suc i) (λ y. omega arith))
      go false b' e f e' f' =
          let z = f refl in
          let u = a.parent j - 1 in
          let back : a.parent j ≡ suc u = omega arith in
          into-joint p a c (added a c j) ws s _ u (omega arith) (added-here (suc u) back ∙ sym (sum_is (suc u) (composite_place u) (s.composites u (omega arith)))) (λ l y. added-not l (λ x. y (sym x ∙ back)))

  composite-outside : Outside 0 (matrix_place p.n) ws (composite_visit p (a.parent j) j ws)
  unfolding composite_visit add_into
  composite-outside = go (eqb (a.parent j) 0) (eqb p.lead 0)
    where
      go : (b b' : Bool) → Outside 0 (matrix_place p.n) ws (cond b (cond b' ws (add_into (root_place p.n) j ws)) (add_into (composite_place (a.parent j - 1)) j ws))
      go true true = untouched ws
      go true false = wider (put_composite-outside ws (root_place p.n) _) (omega arith) (omega arith)
      go false b' = wider (put_composite-outside ws (composite_place (a.parent j - 1)) _) (omega arith) (omega arith)

  composite-blank : Blank p ws → Blank p (composite_visit p (a.parent j) j ws)
  composite-blank = blank-kept p composite-outside

-- at joint j = n - 1 - i, whose composite is whole by then, that is one more joint gathered
gathered : (a : Arm) → ((j : ℕ) → j < a.n → a.parent j ≤ j) → (i j : ℕ) → i < a.n → j ≡ a.n - suc i → (l : ℕ)
    → added a (gather a (gives a (composite_of a)) i) j l ≡ gather a (gives a (composite_of a)) (suc i) l
unfolding gather
gathered a below i j h e l =
    rw e
    (choice (eqb (a.parent (a.n - suc i)) l) (eqb (a.parent (a.n - suc i)) l) refl
    (λ t. ap (λ (c : Link). joined_of (gather a (gives a (composite_of a)) i l) (to_parent_of c (a.frame (a.n - suc i)))) (composite-done a below (suc (a.n - suc i)) i (omega arith) (omega arith)))
    (λ t. refl))

-- ---- all visits before the columns

-- the workspace after the first k visits below the root's, from what the first begins with
unfoldable pub stage : Plan → Quaternion → Model → List Float → ℕ → List Float → List Float
stage p r m q zero ws = begun_of p m.links 0 ws
stage p r m q (suc k) ws = joint_visit p r m q k (stage p r m q k ws)

module _ (p : Plan) (r : Quaternion) (m : Model) (q ws : List Float) (room : room_of p ≤ length ws) (joints : m.n ≡ p.n)
    (tree : Tree p.n m.parents) where
  abbrev arm : Arm
  arm = arm_of m q

  abbrev given : ℕ → Link
  given = gives arm (composite_of arm)

  -- after k frame visits: k frames, and every composite is its own link
  pub frames-done : (k : ℕ) → k ≤ p.n → Holds p arm k arm.link (stage p r m q k ws) × Blank p (stage p r m q k ws)
  unfolding stage joint_visit
  frames-done zero h = (begun-holds p m q ws room, begun-blank p m q ws room)
  frames-done (suc k) h =
      let e = frames-done k (omega arith) in
      rw (lt-ltb k p.n h) (frame-holds p m q k (stage p r m q k ws) h e.0, frame-blank p m q k (stage p r m q k ws) h e.1)

  -- after i composite visits: the composites have their children among the i highest joints
  pub composites-done : (i : ℕ) → i ≤ p.n → Holds p arm p.n (gather arm given i) (stage p r m q (p.n + i) ws) × Blank p (stage p r m q (p.n + i) ws)
  unfolding stage joint_visit gather
  composites-done zero h = let e : p.n + 0 ≡ p.n = omega arith in rw e (frames-done p.n (omega arith))
  composites-done (suc i) h =
      let at = p.n + i in
      let j = p.n + p.n - 1 - at in
      let before = composites-done i (omega arith) in
      let there : p.n + suc i ≡ suc at = omega arith in
      let same : j ≡ m.n - suc i = omega arith in
      let low = tree.below j (omega arith) in
      let s = composite-holds p arm (gather arm given i) j (stage p r m q at ws) before.0 (omega arith) low in
      rw (there, le-ltb at p.n (omega arith), lt-ltb at (p.n + p.n) (omega arith)) (
        meant p arm p.n (added arm (gather arm given i) j) (gather arm given (suc i)) _ (gathered arm (λ j g. tree.below j (omega arith)) i j (omega arith) same) s,
        composite-blank p arm (gather arm given i) j (stage p r m q at ws) before.0 (omega arith) low before.1,
      )

  -- after the last of them they are whole
  pub composites-whole : Holds p arm p.n (composite_of arm) (stage p r m q (p.n + p.n) ws)
  composites-whole =
      meant p arm p.n (gather arm given p.n) (composite_of arm) _
      (λ l. ap (λ (i : ℕ). gather arm given i l) (sym joints) ∙ sym (composite-is arm (λ j g. tree.below j (omega arith)) l)) (composites-done p.n (omega arith)).0
