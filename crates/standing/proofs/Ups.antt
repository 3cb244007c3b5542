-- Going up from a joint until another is met: what is touched between them, a joint at a time. Assumes nothing.
use mathlib.Core.Bool.{Bool, true, false, not, or_assoc, ◌&&◌, ◌||◌}
use mathlib.Core.List.{List}
use mathlib.Core.Path.{◌≡◌, refl, sym, ap, ◌∙◌}
use Prim.Native.Nat.{ℕ, suc, ◌<◌}
use native.Mathlib.Omega.{arith}
use borrow.Author.Tests.{eqb-true, ne_eqb}
use lib.Dec.{eqb}
use Rattle.arm.specs.Model.{parent_of, Tree}
use Rattle.standing.specs.Tree.{carries_in, carries, between}
use Rattle.standing.specs.Standing.{some, reframed, path_touched, stands_up}
use Rattle.standing.proofs.Flags.{same_flag, all_three, three-are, first, second, one-is, or-not, some-where, some-has}
use Rattle.standing.proofs.Trees.{carries-step, carries-itself, carries-means, none_between}

module _ (n : ℕ) (parents kinds : List ℕ) (frames axes : List Bool) (t : Tree n parents) (I : ℕ) where
  abbrev parent : ℕ → ℕ
  parent = parent_of parents

  -- joint x counts on the way from J
  abbrev counts : ℕ → ℕ → Bool
  counts J x = between parent I J x && reframed kinds frames axes x

  abbrev path : ℕ → Bool
  path J = path_touched n parents kinds frames axes J I

  counts-are : (J x : ℕ) → counts J x ≡ true → (carries parent (suc x) (suc J) ≡ true) × (carries parent (suc I) (parent x) ≡ true) × (reframed kinds frames axes x ≡ true)
  counts-are J x = three-are (carries parent (suc x) (suc J)) (carries parent (suc I) (parent x)) (reframed kinds frames axes x)

  counts-is : (J x : ℕ) → carries parent (suc x) (suc J) ≡ true → carries parent (suc I) (parent x) ≡ true → reframed kinds frames axes x ≡ true → counts J x ≡ true
  counts-is J x = all_three (carries parent (suc x) (suc J)) (carries parent (suc I) (parent x)) (reframed kinds frames axes x)

  -- none is between a joint and itself
  path-here : I < n → path I ≡ false
  unfolding path_touched
  path-here i = go (some (counts I) n) refl
    where
      go : (b : Bool) → some (counts I) n ≡ b → b ≡ false
      go true e =
          let (x, h, f) = some-where (counts I) n e in
          let g = counts-are I x f in
          let low = t.below x h in
          absurd (none_between n parent t.below I x h (carries-means n parent t.below (suc x) (suc I) (omega arith) g.0, carries-means n parent t.below (suc I) (parent x) (omega arith) g.1))
      go false e = refl

  -- ---- whether the entry stands, where it is known or not that something else is touched

  abbrev value : Bool → ℕ → Bool
  value known J = stands_up n parents kinds frames axes known J I

  module _ (J : ℕ) (h : J < n) where
    step : (l : ℕ) → carries parent l (suc J) ≡ (eqb (suc J) l || carries parent l (parent J))
    step l = carries-step n parent t.below l J h

    pub up-here : (known : Bool) → J ≡ I → not known ≡ value known J
    up-here known e =
        let i : I < n = omega arith in
        rw (e, carries-itself n parent t.below (suc I), path-here i) (ap not (sym (or-not known refl)))

    module _ (f : J ≡ I → ⊥) where
      away : carries parent (suc I) (suc J) ≡ carries parent (suc I) (parent J)
      away = step (suc I) ∙ rw (ne_eqb (suc J) (suc I) (λ e. f (omega (arith, e))))

      -- at the root I is not met
      pub up_root : (known : Bool) → parent J ≡ 0 → true ≡ value known J
      unfolding carries_in
      up_root known e = rw (away, e, ne_eqb 0 (suc I) (λ z. absurd (omega arith)))

      -- the way from J is J, and the way from the joint u that it hangs on
      module _ (u : ℕ) (e : suc u ≡ parent J) where
        path-on : carries parent (suc I) (parent J) ≡ true → path J ≡ (reframed kinds frames axes J || path u)
        unfolding path_touched
        path-on c = same_flag (path J) (reframed kinds frames axes J || path u) there back
          where
            there : some (counts J) n ≡ true → (reframed kinds frames axes J || some (counts u) n) ≡ true
            there g =
                let (x, l, s) = some-where (counts J) n g in
                let a = counts-are J x s in
                one-is (eqb (suc J) (suc x)) (carries parent (suc x) (parent J)) (sym (step (suc x)) ∙ a.0)
                (λ b. let same : x ≡ J = omega (arith, eqb-true (suc J) (suc x) b) in first _ (rw same at a.2))
                (λ b. second (reframed kinds frames axes J) (some-has (counts u) n x l (counts-is u x (rw e b) a.1 a.2)))

            back : (reframed kinds frames axes J || some (counts u) n) ≡ true → some (counts J) n ≡ true
            back g =
                one-is (reframed kinds frames axes J) (some (counts u) n) g
                (λ b. some-has (counts J) n J h (counts-is J J (carries-itself n parent t.below (suc J)) c b))
                (λ b.
                let (x, l, s) = some-where (counts u) n b in
                let a = counts-are u x s in
                some-has (counts J) n x l (counts-is J x (step (suc x) ∙ second (eqb (suc J) (suc x)) (rw e at a.0)) a.1 a.2))

        pub up-on : (known next : Bool) → next ≡ (known || reframed kinds frames axes J) → value next u ≡ value known J
        up-on known next d = go (carries parent (suc I) (parent J)) refl
          where
            go : (b : Bool) → carries parent (suc I) (parent J) ≡ b → value next u ≡ value known J
            go true c = rw (away, e, c, d, path-on c) (ap not (or_assoc known (reframed kinds frames axes J) (path u)))
            go false c = rw (away, e, c)
