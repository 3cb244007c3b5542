-- What an entry rests on: arms that agree in that have the same entry; joints of which neither carries the other have +0.0 (document 02, item 7). Assumes nothing.
use mathlib.Core.Path.{◌≡◌, refl, sym, ap, ap₂, ◌∙◌}
use Prim.Native.Nat.{ℕ, zero, suc, ◌-◌, ◌≤◌, ◌<◌}
use native.Mathlib.Omega.{arith}
use borrow.Author.Tests.{eqb-true, eqb-false, ne_eqb}
use lib.Dec.{eqb}
use lib.Ieee.{Float}
use Rattle.numbers.specs.Double.{0·0}
use Rattle.spatial.specs.Operators.{wrench_to_parent}
use Rattle.spatial.specs.declared.frame.Frame.{Frame}
use Rattle.spatial.specs.declared.wrench.Wrench.{Wrench}
use Rattle.arm.specs.Joint.{with_rotor}
use Rattle.arm.specs.declared.joint.Motion.{Motion}
use Rattle.arm.specs.declared.model.Link.{Link}
use Rattle.composites.specs.Composite.{to_parent_of, force_of, entry_of}
use Rattle.plain_entries.specs.Arm.{Arm}
use Rattle.plain_entries.specs.Gather.{gather, gives, composite_to}
use Rattle.plain_entries.specs.Entries.{answer_of, along, entry_between}
use Rattle.plain_entries.specs.Rests.{Carries, itself, further, Between, Agree}
use Rattle.plain_entries.proofs.Depths.{choice, either, gather-same}

-- ---- the tree

module _ {n : ℕ} {parent : ℕ → ℕ} where
  -- what a carried link carries is carried
  carries-on : {l k x : ℕ} → Carries n parent l k → Carries n parent k x → Carries n parent l x
  carries-on c itself = c
  carries-on c (further j h d) = further j h (carries-on c d)

  -- another link than l itself is carried through the joint that it hangs on
  carries-up : {l j : ℕ} → (suc j ≡ l → ⊥) → Carries n parent l (suc j) → Carries n parent l (parent j)
  carries-up away c = go c away refl
    where
      go : {l j x : ℕ} → Carries n parent l x → (suc j ≡ l → ⊥) → x ≡ suc j → Carries n parent l (parent j)
      go itself away e = absurd (away (sym e))
      go {j = j} (further i h d) away e = let same : i ≡ j = omega (arith, e) in rw same at d

-- ---- two arms over one tree

module _ (a b : Arm) (joints : a.n ≡ b.n) (tree : (j : ℕ) → j < a.n → a.parent j ≡ b.parent j) where
  -- a composite rests on the links that it carries, and on the frames of the joints that stand on these
  pub composite-rests : (k l : ℕ) → ((x : ℕ) → Carries a.n a.parent l x → a.link x ≡ b.link x)
      → ((j : ℕ) → j < a.n → Carries a.n a.parent l (a.parent j) → a.frame j ≡ b.frame j) → composite_to a k l ≡ composite_to b k l
  unfolding composite_to
  composite-rests zero l links frames = links l itself
  composite-rests (suc k) l links frames =
      gather-same a b joints tree (gives a (composite_to a k)) (gives b (composite_to b k)) l (links l itself)
      (λ j h e. let c : Carries a.n a.parent l (a.parent j) = rw e itself in
      ap₂ to_parent_of (composite-rests k (suc j) (λ x d. links x (carries-on (further j h c) d)) (λ i g d. frames i g (carries-on (further j h c) d))) (frames j h c))
      a.n (omega arith)
      ∙ ap (λ (i : ℕ). gather b (gives b (composite_to b k)) i l) joints

  -- and the walk up to a joint that carries J, on the frames between and that joint's motion
  pub along-rests : ((j : ℕ) → j < a.n → a.parent j ≤ j) → (other : Float) (I : ℕ) → a.motion I ≡ b.motion I → (k J : ℕ) → J < a.n → Carries a.n a.parent (suc I) (suc J)
      → ((j : ℕ) → j < a.n → Between a.n a.parent I J j → a.frame j ≡ b.frame j) → (w : Wrench) → along a other k J I w ≡ along b other k J I w
  unfolding along
  along-rests low other I m zero J h c frames w = refl
  along-rests low other I m (suc k) J h c frames w =
      choice (eqb J I) (eqb J I) refl (λ t. ap (λ (x : Motion). entry_of x w) m)
      (λ t. choice (eqb (a.parent J) 0) (eqb (b.parent J) 0) (ap (λ (p : ℕ). eqb p 0) (tree J h)) (λ u. refl)
      (λ u.
      let up = a.parent J in
      let more = eqb-false up 0 u in
      let away = eqb-false J I t in
      let e : suc (up - 1) ≡ up = omega arith in
      let d : Carries a.n a.parent (suc I) up = carries-up (λ z. away (omega (arith, z))) c in
      along-rests low other I m k (up - 1) (omega (arith, low J h)) (rw e d) (λ j g s. frames j g (further J h (rw e at s.0), s.1)) (wrench_to_parent (a.frame J) w)
      ∙ ap₂ (λ (p : ℕ) (f : Frame). along b other k (p - 1) I (wrench_to_parent f w)) (tree J h) (frames J h (itself, d))))

-- THE ENTRY between J and a joint I that is J or carries it rests on what `Agree` lists
pub entry-rests : (a b : Arm) → ((j : ℕ) → j < a.n → a.parent j ≤ j) → (J I : ℕ) → J < a.n → Carries a.n a.parent (suc I) (suc J) → Agree a b J I
    → entry_between a J I ≡ entry_between b J I
entry-rests a b low J I h c g =
    choice (eqb J I) (eqb J I) refl (λ t. ap₂ with_rotor (g.own (eqb-true J I t)) walked) (λ t. walked)
  where
    walked : along a 0·0 (suc J) J I (answer_of a J) ≡ along b 0·0 (suc J) J I (answer_of b J)
    walked =
        ap₂ (λ (m : Motion) (l : Link). along a 0·0 (suc J) J I (force_of m l)) g.high
        (composite-rests a b g.joints g.tree a.n (suc J) g.links g.below ∙ ap (λ (k : ℕ). composite_to b k (suc J)) g.joints)
        ∙ along-rests a b g.joints g.tree low 0·0 I g.low (suc J) J h c g.path (answer_of b J)

-- ---- joints of which neither carries the other

module _ (a : Arm) (low : (j : ℕ) → j < a.n → a.parent j ≤ j) (I : ℕ) where
  along-none : (other : Float) (k J : ℕ) (w : Wrench) → J < a.n → (Carries a.n a.parent (suc I) (suc J) → ⊥) → along a other k J I w ≡ other
  unfolding along
  along-none other zero J w h apart = refl
  along-none other (suc k) J w h apart =
      let up = a.parent J in
      rw (ne_eqb J I (λ e. apart (rw e itself)))
      (either (eqb up 0) (λ t. refl) (λ t.
      let more = eqb-false up 0 t in
      let e : suc (up - 1) ≡ up = omega arith in
      along-none other k (up - 1) (wrench_to_parent (a.frame J) w) (omega (arith, low J h)) (λ c. apart (further J h (rw e at c)))))

  -- +0.0
  pub unrelated : (J : ℕ) → J < a.n → (Carries a.n a.parent (suc I) (suc J) → ⊥) → entry_between a J I ≡ 0·0
  unrelated J h apart = rw (ne_eqb J I (λ e. apart (rw e itself))) (along-none 0·0 (suc J) J (answer_of a J) h apart)
