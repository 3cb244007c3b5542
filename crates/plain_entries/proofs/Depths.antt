-- Composites by their definition: what they are made of, and that any depth that is enough gives the same. Assumes nothing.
use mathlib.Core.Bool.{Bool, true, false, cond}
use mathlib.Core.Path.{◌≡◌, refl, sym, ap, ap₂, ◌∙◌}
use Prim.Native.Nat.{ℕ, zero, suc, ◌+◌, ◌-◌, ◌≤◌, ◌<◌}
use native.Mathlib.Nat.{add-zero, add-suc}
use native.Mathlib.Numerals.{add-one}
use native.Mathlib.Omega.{arith}
use borrow.Author.Tests.{eqb-true, eq-eqb, ne_eqb}
use lib.Dec.{eqb}
use Rattle.arm.specs.declared.model.Link.{Link}
use Rattle.composites.specs.Composite.{to_parent_of, joined_of}
use Rattle.plain_entries.specs.Arm.{Arm}
use Rattle.plain_entries.specs.Gather.{gather, gives, composite_to, composite_of, gathered_of}

-- a choice by equal tests, when each way is equal
pub choice : {S : Type 0} (b b' : Bool) {x x' y y' : S} → b ≡ b' → (b ≡ true → x ≡ x') → (b ≡ false → y ≡ y') → cond b x y ≡ cond b' x' y'
choice true b' e f g = rw (← e) (f refl)
choice false b' e f g = rw (← e) (g refl)

-- a choice, when each way is the same thing
pub either : {S : Type 0} (b : Bool) {x y z : S} → (b ≡ true → x ≡ z) → (b ≡ false → y ≡ z) → cond b x y ≡ z
either true f g = f refl
either false f g = g refl

module _ (a b : Arm) (joints : a.n ≡ b.n) (tree : (j : ℕ) → j < a.n → a.parent j ≡ b.parent j) where
  pub gather-same : (f g : ℕ → Link) (l : ℕ) → a.link l ≡ b.link l → ((j : ℕ) → j < a.n → a.parent j ≡ l → f j ≡ g j) → (i : ℕ) → i ≤ a.n → gather a f i l ≡ gather b g i l
  unfolding gather
  gather-same f g l e h zero le = e
  gather-same f g l e h (suc i) le =
      let j = a.n - suc i in
      let same : j ≡ b.n - suc i = ap (λ (n : ℕ). n - suc i) joints in
      let ih = gather-same f g l e h i (omega arith) in
      choice (eqb (a.parent j) l) (eqb (b.parent (b.n - suc i)) l) (ap (λ (p : ℕ). eqb p l) (tree j (omega arith) ∙ ap b.parent same))
      (λ t. λ k. joined_of (ih k) ((h j (omega arith) (eqb-true (a.parent j) l t) ∙ ap g same) k)) (λ t. ih)

module _ (a : Arm) (below : (j : ℕ) → j < a.n → a.parent j ≤ j) where
  -- joints below l stand on no link l, so nothing is added after the first n - l
  gather-stays : (f : ℕ → Link) (l i d : ℕ) → i + d ≤ a.n → a.n ≤ i + l → gather a f (i + d) l ≡ gather a f i l
  unfolding gather
  gather-stays f l i zero h g = rw add-zero
  gather-stays f l i (suc d) h g =
      let j = a.n - suc (i + d) in
      let low = below j (omega arith) in
      rw (add-suc i d, ne_eqb (a.parent j) l (λ e. absurd (omega arith)))
      (gather-stays f l i d (omega arith) g)

  -- any two depths that are enough give the same composite
  pub deep : (k k' l : ℕ) → a.n ≤ k + l → a.n ≤ k' + l → composite_to a k l ≡ composite_to a k' l
  unfolding composite_to gather
  deep zero zero l h h' = refl
  deep zero (suc k') l h h' =
      let e : 0 + a.n ≡ a.n = omega arith in
      sym (rw e at (gather-stays (gives a (composite_to a k')) l 0 a.n (omega arith) (omega arith)))
  deep (suc k) zero l h h' =
      let e : 0 + a.n ≡ a.n = omega arith in
      rw e at (gather-stays (gives a (composite_to a k)) l 0 a.n (omega arith) (omega arith))
  deep (suc k) (suc k') l h h' =
      gather-same a a refl (λ j g. refl) (gives a (composite_to a k)) (gives a (composite_to a k')) l refl
      (λ j g e. ap (λ (c : Link). to_parent_of c (a.frame j)) (deep k k' (suc j) (omega (arith, below j g)) (omega (arith, below j g)))) a.n (omega arith)

  -- a composite, by its children's
  pub composite-is : (l : ℕ) → composite_of a l ≡ gather a (gives a (composite_of a)) a.n l
  unfolding composite_to
  composite-is l = deep a.n (suc a.n) l (omega arith) (omega arith)

  -- after the first i joints from the highest, link l ≥ n - i has its whole composite
  pub composite-done : (l i : ℕ) → i ≤ a.n → a.n ≤ i + l → gather a (gives a (composite_of a)) i l ≡ composite_of a l
  composite-done l i h g =
      let e : i + (a.n - i) ≡ a.n = omega arith in
      sym (rw e at (gather-stays (gives a (composite_of a)) l i (a.n - i) (omega arith) g)) ∙ sym (composite-is l)

-- ---- one joint gathered, as the code does it

module _ (a : Arm) (i l : ℕ) where
  pub gathered-first : i ≡ 0 → a.link l ≡ gathered_of a i l
  unfolding gather
  gathered-first e = rw e

  pub gathered-not : (i ≡ 0 → ⊥) → (a.parent (a.n - i) ≡ l → ⊥) → gathered_of a (i - 1) l ≡ gathered_of a i l
  unfolding gather
  gathered-not z f = go i z f
    where
      go : (i : ℕ) → (i ≡ 0 → ⊥) → (a.parent (a.n - i) ≡ l → ⊥) → gathered_of a (i - 1) l ≡ gathered_of a i l
      go zero z f = absurd (z refl)
      go (suc k) z f = let e : suc k - 1 ≡ k = omega arith in rw (e, ne_eqb (a.parent (a.n - suc k)) l f)

  gathered-joined : (i ≡ 0 → ⊥) → a.parent (a.n - i) ≡ l → joined_of (gathered_of a (i - 1) l) (gives a (composite_of a) (a.n - i)) ≡ gathered_of a i l
  unfolding gather
  gathered-joined z f = go i z f
    where
      go : (i : ℕ) → (i ≡ 0 → ⊥) → a.parent (a.n - i) ≡ l → joined_of (gathered_of a (i - 1) l) (gives a (composite_of a) (a.n - i)) ≡ gathered_of a i l
      go zero z f = absurd (z refl)
      go (suc k) z f = let e : suc k - 1 ≡ k = omega arith in rw (e, eq-eqb (a.parent (a.n - suc k)) l f)

  pub gathered-more : ((j : ℕ) → j < a.n → a.parent j ≤ j) → (i ≡ 0 → ⊥) → a.parent (a.n - i) ≡ l → {c whole : Link} → c ≡ gathered_of a (i - 1) l
      → whole ≡ gathered_of a a.n (a.n - i + 1) → joined_of c (to_parent_of whole (a.frame (a.n - i))) ≡ gathered_of a i l
  gathered-more below z f d e =
      ap₂ (λ (x y : Link). joined_of x (to_parent_of y (a.frame (a.n - i)))) d (e ∙ ap (gathered_of a a.n) (add-one (a.n - i)) ∙ sym (composite-is a below (suc (a.n - i))))
      ∙ gathered-joined z f
