-- `array::from_fn` by the function of the index.
use Rattle.std.proofs.Common.{◌≡◌, ℕ, zero, suc, ◌+◌, ◌<◌, ◌≤◌, refl, sym, subst, ◌∙◌, ap, arith, add-one, add-zero, zero-add, length, get_or, take, List, [], ◌∷◌, ◌++◌}
use Rattle.std.specs.Array.{IsFromFnResult, IsFromFnResultFrom}
use denote.Param.Members.{Mut, Called}
use lib.Seq.{take-suc, take_all}
use native.Mathlib.Nat.{le_of_eq}
use Rattle.numbers.specs.Table.{tab}

-- the closure h, which calls leave as it is
module _ {F B : Type 0} (g : Mut F (ℕ × Unit {0}) B) (h : ℕ → B) (f : F) (step : (i : ℕ) (q : F) (y : B) → Called g f (i, tt) y q → (q ≡ f) × (y ≡ h i)) where
  one_more : (ys : List B) (i : ℕ) (y : B) → i < length ys → ((d : B) → get_or ys i d ≡ y) → y ≡ h i → take i ys ≡ tab h i → take (suc i) ys ≡ tab h (suc i)
  unfolding tab
  one_more ys i y l at e t = take-suc ys i y l ∙ ap (λ (r : List B). r ++ get_or ys i y ∷ []) t ∙ ap (λ (z : B). tab h i ++ z ∷ []) (at y ∙ e)

  front : (ys : List B) (n i : ℕ) → IsFromFnResultFrom g f ys i n → i + n ≤ length ys → take i ys ≡ tab h i → take (i + n) ys ≡ tab h (i + n)
  front ys zero i w l t = rw add-zero t
  front ys (suc n) i (q, y, at, k, rest) l t =
      let s = step i q y k in
      let u = one_more ys i y (omega arith) at.1 s.1 t in
      let r = front ys n (i + 1) (subst (λ (p : F). IsFromFnResultFrom g p ys (i + 1) n) s.0 rest) (omega arith) (rw add-one u) in
      let e : i + suc n ≡ i + 1 + n = omega arith in
      rw e r

  pub made : (ys : List B) (n : ℕ) → IsFromFnResult g f ys n → ys ≡ tab h n
  unfolding tab
  made ys n w = sym (take_all n ys (le_of_eq w.long)) ∙ (let r = front ys n 0 w.each (omega (arith, w.long)) refl in rw zero-add at r)
