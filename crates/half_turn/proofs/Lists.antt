-- Horner's rule goes through the coefficients from the last to the first. Assumes nothing.
use Rattle.std.proofs.Common.{◌≡◌, refl, ap, ◌∙◌, List, [], ◌∷◌, ◌++◌, reverse, Option, Some, None}
use Rattle.std.proofs.lemmas.List.Sums.{fold-append}
use Rattle.std.proofs.lemmas.Grind.{reverse_onto}
use Rattle.std.specs.List.{reduce}
use Rattle.std.specs.Option.{unwrap_or}
use Rattle.numbers.specs.Double.{◌⊕◌, ◌⊗◌}
use lib.Ieee.{Float, nan, of_bits, binary64}
use Rattle.half_turn.specs.HalfTurn.{horner_of}

module _ {A : Type 0} (f : A → A → A) where
  with_one : Option A → A → A
  with_one None y = y
  with_one (Some p) y = f p y

  reduce-push : (xs : List A) (y : A) → reduce f (xs ++ y ∷ []) ≡ Some (with_one (reduce f xs) y)
  unfolding with_one
  reduce-push [] y = refl
  reduce-push (x ∷ xs) y = ap Some (fold-append f x xs (y ∷ []))

module _ (z : Float) where
  some : (c : Float) (cs : List Float) → reduce (λ p x. x ⊕ z ⊗ p) (reverse (c ∷ cs)) ≡ Some (horner_of (c ∷ cs) z)
  unfolding horner_of with_one
  some c [] = refl
  some c (d ∷ cs) =
      let f = λ (p : Float) (x : Float). x ⊕ z ⊗ p in
      ap (reduce f) (reverse_onto (d ∷ cs) c []) ∙ reduce-push f (reverse (d ∷ cs)) c ∙ ap (λ (r : Option Float). Some (with_one f r c)) (some d cs)

  pub from_last : (cs : List Float) → unwrap_or (reduce (λ p x. x ⊕ z ⊗ p) (reverse cs)) (of_bits binary64 9221120237041090560) ≡ horner_of cs z
  unfolding horner_of of_bits
  from_last [] = refl
  from_last (c ∷ cs) = ap (λ (r : Option Float). unwrap_or r nan) (some c cs)
