-- The lowest link number that is listed with a cause, by the least of those that a chain lets through. Assumes nothing.
use Rattle.std.proofs.Common.{◌≡◌, ℕ, zero, suc, ◌+◌, ◌<◌, ◌≤◌, Bool, true, false, List, [], ◌∷◌, ◌++◌, Option, Some, refl, sym, ap, ◌∙◌, get_or, add-one, append-nil, ⊎_elim, arith, min}
use Rattle.std.specs.Bool.{then_some}
use Rattle.std.specs.List.{reduce, filter_map, cons_option, range_with_len}
use Rattle.std.proofs.lemmas.Bool.{cases_lt}
use Rattle.std.proofs.lemmas.List.{map-id}
use Rattle.std.proofs.lemmas.List.Elements.{filter_map-append}
use Rattle.std.proofs.lemmas.List.FromFn.{map-range_with_len_more}
use Rattle.std.proofs.lemmas.List.Sums.{fold_push}
use borrow.Author.Tests.{lt-ltb, le-ltb}
use Rattle.forward_dynamics.specs.Checks.{lower_of, lower_if, least_to}

lower-min : (m x : ℕ) → Some (min m x) ≡ lower_of x (Some m)
unfolding lower_of
lower-min m x =
    ⊎_elim
    (λ (h : m < x). let e : min m x ≡ m = omega arith in rw (e, lt-ltb m x h))
    (λ (h : x ≤ m). let e : min m x ≡ x = omega arith in rw (e, le-ltb m x h))
    (cases_lt m x)

reduce-push : (xs : List ℕ) (x : ℕ) → reduce min (xs ++ x ∷ []) ≡ lower_of x (reduce min xs)
unfolding lower_of
reduce-push [] x = refl
reduce-push (y ∷ xs) x = ap Some (fold_push min y xs x) ∙ lower-min _ x

-- one number more, where it has a cause
one-more : (b : Bool) (xs : List ℕ) (x : ℕ) → reduce min (xs ++ cons_option (then_some b x) []) ≡ lower_if b x (reduce min xs)
unfolding lower_if
one-more true xs x = reduce-push xs x
one-more false xs x = ap (reduce min) (append-nil xs)

range-push : (n m : ℕ) → n + 1 ≡ m → range_with_len 0 m ≡ range_with_len 0 n ++ n ∷ []
range-push n m e =
    ap (range_with_len 0) (sym e)
    ∙ sym (map-id (range_with_len 0 (n + 1)))
    ∙ map-range_with_len_more (λ k. k) 0 n n (omega arith)
    ∙ ap (λ l. l ++ n ∷ []) (map-id (range_with_len 0 n))

-- of the first n listed
pub least-is : (cause : ℕ → Bool) (loaded : List ℕ) (n : ℕ) → reduce min (filter_map (λ k. then_some (cause k) (get_or loaded k 0)) (range_with_len 0 n)) ≡ least_to cause loaded n
unfolding least_to
least-is cause loaded zero = refl
least-is cause loaded (suc n) =
    let h : ℕ → Option ℕ = λ k. then_some (cause k) (get_or loaded k 0) in
    ap (λ l. reduce min (filter_map h l)) (range-push n (suc n) (add-one n))
    ∙ ap (reduce min) (filter_map-append h (range_with_len 0 n) (n ∷ []))
    ∙ one-more (cause n) (filter_map h (range_with_len 0 n)) (get_or loaded n 0)
    ∙ ap (lower_if (cause n) (get_or loaded n 0)) (least-is cause loaded n)
