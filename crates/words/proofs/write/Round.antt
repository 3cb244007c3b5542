-- What is written reads back: `round_trip` for numbers, `double-back` for doubles. Assumes nothing.
use mathlib.Core.Path.{◌≡◌, refl, sym, ap, ◌∙◌, subst}
use mathlib.Core.Logic.{⊎_elim}
use mathlib.Core.Bool.{false}
use mathlib.Core.List.{List, [], ◌∷◌, ◌++◌, append_assoc, append-nil}
use Prim.Native.Nat.{ℕ, zero, suc, ◌+◌, ◌-◌, ◌*◌, ◌/◌, ◌%◌, ◌^◌, ◌≤◌, ◌<◌, min, max}
use native.Mathlib.Nat.{pow-suc, pow-le-pow_right, zero-lt-suc, le_trans, mod-one, mod-lt, mod-eq_of_lt, eq-or-lt_of_le, one-le-pow}
use native.Mathlib.Numerals.{add-one}
use native.Mathlib.Omega.{arith}
use lib.Arith.{mod-mul}
use lib.Dec.{T}
use lib.ListN.{length, length-append}
use lib.Ieee.{Float, binary64, fits, of_bits, to_bits, is_nan}
use lib.Ieee.Bits.{of_bits-to_bits, to_bits-lt}
use borrow.Author.Tests.{ne_eqb, lt-ltb, le-ltb, le-leb, lt-leb}
use Rattle.io.specs.Digits.{last_digits, hex_digit_ascii, IsDigitCount}
use Rattle.std.proofs.Common.{Some}
use Rattle.std.proofs.lemmas.Bool.{cases_lt}
use Rattle.words.specs.Read.{digit_of, read_from, number_of}
use Rattle.words.specs.Write.{fewest_from, width_text, decimal_text, hex_text, double_text}

-- ---- digits
digit_glyph : (d : ℕ) → d < 16 → digit_of (hex_digit_ascii d) ≡ Some d
unfolding digit_of
digit_glyph d h =
    ⊎_elim
    (λ (q : d < 10). rw (lt-ltb d 10 q, le-leb 48 (48 + d) (omega arith), le-leb (48 + d) 57 (omega arith)) (ap Some (omega arith)))
    (λ (q : 10 ≤ d).
    rw (le-ltb d 10 q, le-leb 48 (87 + d) (omega arith), lt-leb (87 + d) 57 (omega arith), le-leb 97 (87 + d) (omega arith), le-leb (87 + d) 102 (omega arith))
    (ap Some (omega arith)))
    (cases_lt d 10)

length_digits : (k n : ℕ) → length (last_digits 16 k n) ≡ k
length_digits zero n = refl
length_digits (suc k) n =
    length-append (last_digits 16 k (n / 16)) (hex_digit_ascii (n % 16) ∷ []) ∙ add-one _ ∙ ap suc (length_digits k (n / 16))

split : (v k n : ℕ) → (v * 16 ^ k + n / 16 % 16 ^ k) * 16 + n % 16 ≡ v * 16 ^ suc k + n % 16 ^ suc k
split v k n =
    rw (pow-suc 16 k, mod-mul n (one-le-pow k 16 (zero-lt-suc 15)) (zero-lt-suc 15))
    (go v (16 ^ k) (n / 16 % 16 ^ k) (n % 16))
  where
    go : (v p a b : ℕ) → (v * p + a) * 16 + b ≡ v * (p * 16) + (a * 16 + b)
    go v p a b = omega arith

reading : (k n v : ℕ) (l : List ℕ) → read_from v (last_digits 16 k n ++ l) ≡ read_from (v * 16 ^ k + n % 16 ^ k) l
unfolding read_from
reading zero n v l = ap (λ (x : ℕ). read_from x l) (let e = mod-one n in omega arith)
reading (suc k) n v l =
    let d : n % 16 < 16 = mod-lt n (zero-lt-suc 15) in
    ap (read_from v) (append_assoc (last_digits 16 k (n / 16)) (hex_digit_ascii (n % 16) ∷ []) l) ∙ reading k (n / 16) v (hex_digit_ascii (n % 16) ∷ l)
    ∙ turn (v * 16 ^ k + n / 16 % 16 ^ k) (hex_digit_ascii (n % 16)) (n % 16) l (digit_glyph (n % 16) d)
    ∙ ap (λ (x : ℕ). read_from x l) (split v k n)
  where
    turn : (u b d : ℕ) (l : List ℕ) → digit_of b ≡ Some d → read_from u (b ∷ l) ≡ read_from (u * 16 + d) l
    turn u b d l e = rw e

-- 1 to 16 digits that hold n read as n
reads : (k n : ℕ) → 1 ≤ k → k ≤ 16 → n < 16 ^ k → number_of (last_digits 16 k n) ≡ Some n
unfolding number_of read_from
reads k n a b h =
    rw (length_digits k n, ne_eqb k 0 (λ (z : k ≡ 0). omega arith), le-ltb 16 k b)
    (ap (read_from 0) (sym (append-nil (last_digits 16 k n))) ∙ reading k n 0 [] ∙ ap Some (let e = mod-eq_of_lt h in omega arith))

-- ---- the fewest digits

-- it is at least j, at most j + f, and holds n where j + f digits do
fewest-holds : (f j n : ℕ) → n < 16 ^ (j + f) → (j ≤ fewest_from 16 f j n) × (fewest_from 16 f j n ≤ j + f) × (n < 16 ^ fewest_from 16 f j n)
unfolding fewest_from
fewest-holds zero j n h = (omega arith, omega arith, subst (λ (x : ℕ). n < 16 ^ x) (omega arith) h)
fewest-holds (suc f) j n h =
    ⊎_elim
    (λ (q : n < 16 ^ j). rw (lt-ltb n (16 ^ j) q) (omega arith, omega arith, q))
    (λ (q : 16 ^ j ≤ n).
    rw (le-ltb n (16 ^ j) q)
    (let r = fewest-holds f (suc j) n (subst (λ (x : ℕ). n < 16 ^ x) (omega arith) h) in (omega arith, omega arith, r.2)))
    (cases_lt n (16 ^ j))

-- THE ROUND TRIP: what `put` of a number writes, `number_of` reads
pub round_trip : (n : ℕ) → n < 2 ^ 64 → number_of (hex_text n) ≡ Some n
unfolding width_text
round_trip n h = let r = fewest-holds 15 1 n h in reads (fewest_from 16 15 1 n) n r.0 r.1 r.2

-- what io promises of k digits is what the definition says
module _ (b : ℕ) (p : 0 < b) where
  fewest-is : (f j n k : ℕ) → j ≤ k → k ≤ j + f → n < b ^ k → (j < k → b ^ (k - 1) ≤ n) → fewest_from b f j n ≡ k
  unfolding fewest_from
  fewest-is zero j n k a c h g = omega arith
  fewest-is (suc f) j n k a c h g =
      ⊎_elim
      (λ (e : j ≡ k). rw (lt-ltb n (b ^ j) (subst (λ (x : ℕ). n < b ^ x) (sym e) h)) e)
      (λ (q : j < k).
      let m : b ^ j ≤ b ^ (k - 1) = pow-le-pow_right p (omega arith) in
      rw (le-ltb n (b ^ j) (le_trans m (g q))) (fewest-is f (suc j) n k q (omega arith) h (λ (z : suc j < k). g q)))
      (eq-or-lt_of_le a)

  module _ (top w n k : ℕ) (a : w ≤ top) (h : n < b ^ top) (f : IsDigitCount b w n k) where
    at_most : k ≤ top
    at_most =
        ⊎_elim
        (λ (q : top < k).
        let i : top ≤ k - 1 = omega arith in
        let m : b ^ top ≤ b ^ (k - 1) = pow-le-pow_right p {i = top} {j = k - 1} i in
        let g = f.2 (omega arith) in
        omega arith)
        (λ (q : k ≤ top). q)
        (cases_lt top k)

    fewest-digits : last_digits b k n ≡ last_digits b (fewest_from b (top - w) w n) n
    fewest-digits =
        let m = at_most in
        ap (λ (x : ℕ). last_digits b x n) (sym (fewest-is (top - w) w n k f.0 (omega arith) f.1 f.2))

-- so `io::hex` makes the digits of `width_text`, and `io::decimal` those of `decimal_text`
pub width_is : (w n k : ℕ) → 1 ≤ w → w ≤ 16 → n < 2 ^ 64 → IsDigitCount 16 (min (max w 1) 16) n k → (k ≤ 16) × (last_digits 16 k n ≡ width_text w n)
unfolding width_text
width_is w n k a b h f =
    let e : min (max w 1) 16 ≡ w = omega arith in
    let g : IsDigitCount 16 w n k = rw e at f in
    (at_most 16 (zero-lt-suc 15) 16 w n k b h g, fewest-digits 16 (zero-lt-suc 15) 16 w n k b h g)

pub decimal_is : (n k : ℕ) → n < 2 ^ 64 → IsDigitCount 10 1 n k → (k ≤ 20) × (last_digits 10 k n ≡ decimal_text n)
unfolding decimal_text
decimal_is n k h f =
    (at_most 10 (zero-lt-suc 9) 20 1 n k (omega arith) (omega arith) f, fewest-digits 10 (zero-lt-suc 9) 20 1 n k (omega arith) (omega arith) f)

-- ---- doubles
-- THE SAME OF A DOUBLE that is no NaN: its text reads as its pattern, and that pattern is the double
pub double-back : (x : Float) → T (fits binary64 x) → is_nan x ≡ false
    → (number_of (double_text x) ≡ Some (to_bits binary64 x)) × (of_bits binary64 (to_bits binary64 x) ≡ x)
unfolding double_text width_text fewest_from
double-back x f h = (rw h (reads 16 (to_bits binary64 x) (omega arith) (omega arith) (to_bits-lt binary64 x f)), of_bits-to_bits binary64 x f)
