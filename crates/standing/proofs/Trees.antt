-- The test whether one link carries another is the definition of `plain_entries`, and what that says of a tree. Assumes nothing.
use mathlib.Core.Bool.{Bool, true, not, ◌&&◌, ◌||◌}
use mathlib.Core.Path.{◌≡◌, refl, sym, ap, ◌∙◌}
use Prim.Native.Nat.{ℕ, zero, suc, ◌-◌, ◌≤◌, ◌<◌}
use native.Mathlib.Omega.{arith}
use borrow.Author.Tests.{eqb-true, eq-eqb, ne_eqb}
use lib.Dec.{eqb}
use Rattle.plain_entries.specs.Rests.{Carries, itself, further, Between}
use Rattle.standing.specs.Tree.{carries_in, carries}
use Rattle.standing.proofs.Flags.{first, second, one-is, or-not}

module _ (n : ℕ) (parent : ℕ → ℕ) (low : (j : ℕ) → j < n → parent j ≤ j) where
  -- any two counts that are enough give the same
  enough : (l k k' x : ℕ) → x ≤ n → x ≤ k → x ≤ k' → carries_in k parent l x ≡ carries_in k' parent l x
  unfolding carries_in
  enough l zero zero x h g g' = refl
  enough l zero (suc k') x h g g' = let z : x ≡ 0 = omega arith in rw z (sym (or-not (eqb 0 l) refl))
  enough l (suc k) zero x h g g' = let z : x ≡ 0 = omega arith in rw z (or-not (eqb 0 l) refl)
  enough l (suc k) (suc k') zero h g g' = refl
  enough l (suc k) (suc k') (suc j) h g g' =
      let e : suc j - 1 ≡ j = omega arith in
      let lower = low j (omega arith) in
      rw e (ap (λ (b : Bool). eqb (suc j) l || (not (eqb (suc j) 0) && b)) (enough l k k' (parent j) (omega arith) (omega arith) (omega arith)))

  -- a joint's link is carried, where it is the link itself or the joint's parent link is carried
  pub carries-step : (l j : ℕ) → j < n → carries parent l (suc j) ≡ (eqb (suc j) l || carries parent l (parent j))
  unfolding carries_in
  carries-step l j h =
      let e : suc j - 1 ≡ j = omega arith in
      let lower = low j h in
      rw (e, ne_eqb (suc j) 0 (λ z. absurd (omega arith))) (ap (λ (b : Bool). eqb (suc j) l || b) (enough l j (parent j) (parent j) (omega arith) lower (omega arith)))

  pub carries-itself : (l : ℕ) → carries parent l l ≡ true
  unfolding carries_in
  carries-itself zero = eq-eqb 0 0 refl
  carries-itself (suc k) = first _ (eq-eqb (suc k) (suc k) refl)

  pub carries-is : {l x : ℕ} → Carries n parent l x → carries parent l x ≡ true
  carries-is {l = l} itself = carries-itself l
  carries-is {l = l} (further j h c) = carries-step l j h ∙ second (eqb (suc j) l) (carries-is c)

  pub carries-means : (l x : ℕ) → x ≤ n → carries parent l x ≡ true → Carries n parent l x
  unfolding carries_in
  carries-means l x h e = go x x (omega arith) h e
    where
      root : carries parent l 0 ≡ true → Carries n parent l 0
      root e = let z : 0 ≡ l = eqb-true 0 l e in rw z itself

      go : (k x : ℕ) → x ≤ k → x ≤ n → carries parent l x ≡ true → Carries n parent l x
      go zero zero g h e = root e
      go zero (suc j) g h e = absurd (omega arith)
      go (suc k) zero g h e = root e
      go (suc k) (suc j) g h e =
          let lower = low j (omega arith) in
          one-is (eqb (suc j) l) (carries parent l (parent j)) (sym (carries-step l j (omega arith)) ∙ e)
          (λ t. let z = eqb-true (suc j) l t in rw z itself)
          (λ t. further j (omega arith) (go k (parent j) (omega arith) (omega arith) t))

  -- a carried link has no lower number
  pub carries-le : {l x : ℕ} → Carries n parent l x → l ≤ x
  carries-le itself = omega arith
  carries-le (further j h c) = omega (arith, carries-le c, low j h)

  -- for I equal to J no frame at J or above counts: none is between
  pub none_between : (J x : ℕ) → x < n → Between n parent J J x → ⊥
  none_between J x h b = omega (arith, carries-le b.0, carries-le b.1, low x h)
