-- The first word of a line, at the places that `next_word` finds. Assumes nothing.
use mathlib.Core.Path.{◌≡◌, refl, sym, ap, ◌∙◌}
use mathlib.Core.Bool.{Bool, true, false, not, cond, ◌&&◌}
use mathlib.Core.List.{List, [], ◌∷◌}
use Prim.Native.Nat.{ℕ, ◌+◌, ◌-◌, ◌*◌, ◌^◌, ◌≤◌, ◌<◌}
use native.Mathlib.Nat.{pow-suc, pow-le-pow_right, zero-lt-suc}
use native.Mathlib.Numerals.{add-one, one-add}
use native.Mathlib.Omega.{arith}
use lib.ListN.{length, take, drop, get_or, drop_of_length-le}
use lib.Seq.{drop-cons}
use lib.Dec.{ltb, leb}
use borrow.Author.Tests.{ltb-true, ltb-false}
use Rattle.std.proofs.Common.{Option, Some, None}
use Rattle.std.specs.Option.{unwrap_or}
use Rattle.std.specs.List.{position_or_len, list_all}
use Rattle.std.proofs.lemmas.Option.{cond_some, none-some}
use Rattle.std.proofs.lemmas.List.Sums.{prefix_len-le-length}
use Rattle.words.specs.Read.{is_space, ahead, cut_of, words_of, no_word, word, digit_of, read_from}

-- the places of the first letter and of the first space
abbrev pub letter_at : List ℕ → ℕ
letter_at l = position_or_len (λ b. not (is_space b)) l

abbrev pub space_at : List ℕ → ℕ
space_at l = position_or_len is_space l

cut-is : (l : List ℕ) → cut_of l ≡ (take (space_at l) l, words_of (drop (space_at l) l))
unfolding words_of cut_of
cut-is [] = refl
cut-is (b ∷ l) = go (is_space b) refl (cut-is l)
  where
    go : (t : Bool) → is_space b ≡ t → cut_of l ≡ (take (space_at l) l, words_of (drop (space_at l) l))
        → cut_of (b ∷ l) ≡ (take (space_at (b ∷ l)) (b ∷ l), words_of (drop (space_at (b ∷ l)) (b ∷ l)))
    go true e r = rw (e, e)
    go false e r = rw (e, one-add, r)

-- a line without a letter has no word
pub none-is : (l : List ℕ) → length l ≤ letter_at l → words_of l ≡ []
unfolding words_of cut_of
none-is [] h = refl
none-is (b ∷ l) h = go (is_space b) refl (none-is l)
  where
    go : (t : Bool) → is_space b ≡ t → (length l ≤ letter_at l → words_of l ≡ []) → words_of (b ∷ l) ≡ []
    go true e r = rw e (r (omega (arith, rw e at h)))
    go false e r = absurd (omega (arith, rw e at h))

-- the word at the first letter, ahead of those behind it
abbrev FirstIs : List ℕ → List ℕ → Type 0
FirstIs l front = words_of l ≡ take (space_at front) front ∷ words_of (drop (space_at front) front)

pub first-is : (l : List ℕ) → letter_at l < length l → FirstIs l (drop (letter_at l) l)
unfolding words_of cut_of
first-is [] h = absurd (omega arith)
first-is (b ∷ l) h = go (is_space b) refl (first-is l)
  where
    go : (t : Bool) → is_space b ≡ t → (letter_at l < length l → FirstIs l (drop (letter_at l) l)) → FirstIs (b ∷ l) (drop (letter_at (b ∷ l)) (b ∷ l))
    go true e r = rw (e, one-add) (r (omega (arith, rw e at h)))
    go false e r = rw (e, e, one-add) (ap (λ (p : List ℕ × List (List ℕ)). ahead (b ∷ p.0) p.1) (cut-is l))

pub spaces-are : (l : List ℕ) → list_all is_space l ≡ no_word (words_of l)
unfolding words_of cut_of
spaces-are [] = refl
spaces-are (b ∷ l) = go (is_space b) refl (spaces-are l)
  where
    go : (t : Bool) → is_space b ≡ t → list_all is_space l ≡ no_word (words_of l) → list_all is_space (b ∷ l) ≡ no_word (words_of (b ∷ l))
    go true e r = rw e r
    go false e r = rw e

-- ---- by what `position` found
abbrev pub found_at : (ℕ → Bool) → List ℕ → Option ℕ
found_at test l = cond (ltb (position_or_len test l) (length l)) (Some (position_or_len test l)) None

pub or_length : (test : ℕ → Bool) (l : List ℕ) → unwrap_or (found_at test l) (length l) ≡ position_or_len test l
or_length test l = go (ltb (position_or_len test l) (length l)) refl
  where
    go : (t : Bool) → ltb (position_or_len test l) (length l) ≡ t → unwrap_or (cond t (Some (position_or_len test l)) None) (length l) ≡ position_or_len test l
    go true e = refl
    go false e = let p = prefix_len-le-length (λ b. not (test b)) l in omega (arith, ltb-false _ _ e)

module _ (l : List ℕ) {r : Option ℕ} (e : r ≡ found_at (λ b. not (is_space b)) l) where
  pub no_first : r ≡ None → None ≡ word (words_of l)
  unfolding word
  no_first n = rw (none-is l (ltb-false _ _ (not_found (letter_at l) (length l) (sym e ∙ n))))
    where
      not_found : (i n : ℕ) → cond (ltb i n) (Some i) None ≡ None → ltb i n ≡ false
      not_found i n h = go (ltb i n) h
        where
          go : (t : Bool) → cond t (Some i) None ≡ None → t ≡ false
          go true h = absurd (none-some i (sym h))
          go false h = refl

  pub first : {i k : ℕ} {front : List ℕ} {q : Option ℕ} → r ≡ Some i → front ≡ drop i l → q ≡ found_at is_space front → k ≡ unwrap_or q (length front)
      → Some (take k front, words_of (drop k front)) ≡ word (words_of l)
  unfolding word
  first {front = front} n f g h =
      let p = cond_some _ _ _ (sym e ∙ n) in
      rw (first-is l (ltb-true _ _ p.0), h, g, f, ← p.1, or_length is_space (drop (letter_at l) l))

-- ---- numbers
pub digit_small : (b d : ℕ) → digit_of b ≡ Some d → d < 16
unfolding digit_of
digit_small b d h = go (leb 48 b && leb b 57) (leb 97 b && leb b 102) refl refl h
  where
    go : (s t : Bool) → (leb 48 b && leb b 57) ≡ s → (leb 97 b && leb b 102) ≡ t → cond s (Some (b - 48)) (cond t (Some (b - 87)) None) ≡ Some d → d < 16
    go true t e f h = grind (arith, e, h)
    go false true e f h = grind (arith, f, h)
    go false false e f h = absurd (none-some d h)

module _ (w : List ℕ) (i v : ℕ) (h : i < length w) where
  pub read-on : (d : ℕ) → digit_of (get_or w i 0) ≡ Some d → read_from (v * 16 + d) (drop (i + 1) w) ≡ read_from v (drop i w)
  unfolding read_from
  read-on d e = rw (add-one i, drop-cons w i 0 h, e)

  pub read_off : digit_of (get_or w i 0) ≡ None → None ≡ read_from v (drop i w)
  unfolding read_from
  read_off e = rw (drop-cons w i 0 h, e)

pub read-end : (w : List ℕ) (i v : ℕ) → length w ≤ i → Some v ≡ read_from v (drop i w)
unfolding read_from
read-end w i v h = rw (drop_of_length-le w h)

pub grown : (b v i d : ℕ) → digit_of b ≡ Some d → v < 16 ^ i → v * 16 + d < 16 ^ (i + 1)
grown b v i d e h =
    let k = digit_small b d e in
    rw (add-one i, pow-suc 16 i) (let p = 16 ^ i in omega arith)

pub small : (v i n : ℕ) → v < 16 ^ i → i < n → n ≤ 16 → v < 2 ^ 60
small v i n h k l = let e : 16 ^ i ≤ 16 ^ 15 = pow-le-pow_right (zero-lt-suc 15) {i = i} {j = 15} (omega arith) in omega arith
