-- A double's pattern, its size in units of 2 ^ -1074, and its sign. Assumes nothing.
use mathlib.Core.Path.{◌≡◌, refl, sym, ap, ◌∙◌, subst}
use mathlib.Core.Bool.{Bool, true, false, not, cond}
use Prim.Native.Nat.{ℕ, zero, suc, ◌+◌, ◌-◌, ◌*◌, ◌/◌, ◌%◌, ◌^◌, ◌≤◌, ◌<◌}
use native.Mathlib.Nat.{not-le_of_lt, mod-eq_of_lt, mul-div_cancel, lt_of_not-le}
use native.Mathlib.Omega.{arith}
use lib.Dec.{T, leb, ltb, eqb, leb→le, ltb→lt, nltb→le, eqb→eq, not_T, T_not, le→leb}
use lib.Ieee.{Float, nan, inf, fin, binary64, down, fits, is_nan, to_bits, odd, of_fields, of_bits}
use lib.Ieee.Fits.{down_pos}
use lib.Ieee.Bits.{is_true, is_false, cond_no, of_bits-to_bits, nan_bits_is, nan_bits_above}
use lib.Ieee.Exact.{HasValue, odd_sign}
use Rattle.square_root.specs.SquareRoot.{mag, sig_of, exp_of}

-- ---- what a pattern below the infinity's stands for

of_bits_is : (b : ℕ) → of_bits binary64 b ≡ of_fields binary64 (leb 9223372036854775808 b) (b % 9223372036854775808 / 4503599627370496) (b % 4503599627370496)
unfolding of_bits
of_bits_is b = refl

-- ---- either sign: a pattern without its sign's bit is below the infinity's

fields-mid : (s : Bool) (t x : ℕ) → suc x < 2047 → of_fields binary64 s (suc x) t ≡ odd 53 s (4503599627370496 + t) x 1074
unfolding of_fields
fields-mid s t x h = cond_no (eqb (suc x) 2047) (cond (eqb t 0) (inf s) nan) (odd 53 s (4503599627370496 + t) x 1074) (not_T (eqb (suc x) 2047) (λ (u : T (eqb (suc x) 2047)). differ x h (eqb→eq (suc x) 2047 u)))
  where
    differ : (x : ℕ) → suc x < 2047 → suc x ≡ 2047 → ⊥
    differ x h e = omega arith

fields-low : (s : Bool) (t : ℕ) → of_fields binary64 s 0 t ≡ odd 53 s t 0 1074
unfolding of_fields
fields-low s t = refl

fields-odd : (s : Bool) (b : ℕ) → b < 9218868437227405312 → of_fields binary64 s (b / 4503599627370496) (b % 4503599627370496) ≡ odd 53 s (sig_of b) (exp_of b) 1074
fields-odd s b k = go (ltb b 4503599627370496) (ltb→lt b 4503599627370496) (nltb→le b 4503599627370496)
  where
    field : (b : ℕ) → 4503599627370496 ≤ b → b / 4503599627370496 ≡ suc (b / 4503599627370496 - 1)
    field b h = omega arith

    field_lt : (b : ℕ) → 4503599627370496 ≤ b → b < 9218868437227405312 → suc (b / 4503599627370496 - 1) < 2047
    field_lt b h k = omega arith

    none : (b : ℕ) → b < 4503599627370496 → b / 4503599627370496 ≡ 0
    none b h = omega arith

    none_1 : (b : ℕ) → b < 4503599627370496 → 0 ≡ b / 4503599627370496 - 1
    none_1 b h = omega arith

    go : (t : Bool) → (T t → b < 4503599627370496) → (T (not t) → 4503599627370496 ≤ b)
        → of_fields binary64 s (b / 4503599627370496) (b % 4503599627370496) ≡ odd 53 s (cond t b (4503599627370496 + b % 4503599627370496)) (exp_of b) 1074
    go true h g =
        ap (λ (x : ℕ). of_fields binary64 s x (b % 4503599627370496)) (none b (h tt))
        ∙ ap (λ (x : ℕ). of_fields binary64 s 0 x) (mod-eq_of_lt (h tt))
        ∙ fields-low s b
        ∙ ap (λ (x : ℕ). odd 53 s b x 1074) (none_1 b (h tt))
    go false h g =
        ap (λ (x : ℕ). of_fields binary64 s x (b % 4503599627370496)) (field b (g tt)) ∙ fields-mid s (b % 4503599627370496) (b / 4503599627370496 - 1) (field_lt b (g tt) k)

pub value-signed : (b : ℕ) → b % 9223372036854775808 < 9218868437227405312
    → HasValue (of_bits binary64 b) (leb 9223372036854775808 b) (sig_of (b % 9223372036854775808) * 2 ^ exp_of (b % 9223372036854775808)) (2 ^ 1074)
value-signed b k =
    let a = b % 9223372036854775808 in
    let s = leb 9223372036854775808 b in
    subst (λ (x : Float). HasValue x s (sig_of a * 2 ^ exp_of a) (2 ^ 1074))
    (sym (of_bits_is b ∙ ap (λ (t : ℕ). of_fields binary64 s (a / 4503599627370496) t) (digits b) ∙ fields-odd s a k))
    (odd_sign 53 s (sig_of a) (exp_of a) 1074)
  where
    digits : (b : ℕ) → b % 4503599627370496 ≡ b % 9223372036854775808 % 4503599627370496
    digits b = omega arith

pub value : (b : ℕ) → b < 9218868437227405312 → HasValue (of_bits binary64 b) false (sig_of b * 2 ^ exp_of b) (2 ^ 1074)
value b k =
    let e : b % 9223372036854775808 ≡ b = mod-eq_of_lt (small b k) in
    subst (λ (a : ℕ). HasValue (of_bits binary64 b) false (sig_of a * 2 ^ exp_of a) (2 ^ 1074)) e
    (subst (λ (s : Bool). HasValue (of_bits binary64 b) s (sig_of (b % 9223372036854775808) * 2 ^ exp_of (b % 9223372036854775808)) (2 ^ 1074))
    (is_false (leb 9223372036854775808 b) (not_T (leb 9223372036854775808 b) (λ (u : T (leb 9223372036854775808 b)). not-le_of_lt (small b k) (leb→le 9223372036854775808 b u))))
    (value-signed b (subst (λ (a : ℕ). a < 9218868437227405312) (sym e) k)))
  where
    small : (b : ℕ) → b < 9218868437227405312 → b < 9223372036854775808
    small b h = omega arith

-- ---- the size in units

pub mag_is : (x : Float) (s : Bool) (a : ℕ) → HasValue x s a (2 ^ 1074) → mag x ≡ a
unfolding mag
mag_is nan s a h = absurd h
mag_is (inf t) s a h = absurd h
mag_is (fin t m e) s a h = ap (λ (z : ℕ). z / down e) h.1 ∙ mul-div_cancel a (down_pos e)

pub mag-bits : (b : ℕ) → b < 9218868437227405312 → mag (of_bits binary64 b) ≡ sig_of b * 2 ^ exp_of b
mag-bits b k = mag_is (of_bits binary64 b) false (sig_of b * 2 ^ exp_of b) (value b k)

-- ---- the pattern of a value that is no NaN and not negative

-- negative, or a NaN
abbrev pub minus : Float → Bool
minus nan = true
minus (inf s) = s
minus (fin s m e) = s

odd-minus : (d : ℕ) (q k l : ℕ) → T (minus (odd d true q k l))
unfolding odd
odd-minus d zero k l = tt
odd-minus d (suc q) k l = tt

fields-minus : (x t : ℕ) → T (minus (of_fields binary64 true x t))
unfolding of_fields
fields-minus zero t = odd-minus 53 t 0 1074
fields-minus (suc x) t = go (eqb (suc x) 2047) (eqb t 0)
  where
    go : (a b : Bool) → T (minus (cond a (cond b (inf true) nan) (odd 53 true (4503599627370496 + t) x 1074)))
    go true true = tt
    go true false = tt
    go false b = odd-minus 53 (4503599627370496 + t) x 1074

high-minus : (b : ℕ) → T (leb 9223372036854775808 b) → T (minus (of_bits binary64 b))
high-minus b h =
    subst (λ (x : Float). T (minus x))
    (sym (of_bits_is b ∙ ap (λ (s : Bool). of_fields binary64 s (b % 9223372036854775808 / 4503599627370496) (b % 4503599627370496)) (is_true (leb 9223372036854775808 b) h)))
    (fields-minus (b % 9223372036854775808 / 4503599627370496) (b % 4503599627370496))

pub no_nan : (x : Float) → T (not (minus x)) → T (not (is_nan x))
unfolding is_nan
no_nan nan h = h
no_nan (inf s) h = tt
no_nan (fin s m e) h = tt

-- its pattern is the infinity's at most
pub bits-le : (x : Float) → T (fits binary64 x) → T (not (minus x)) → to_bits binary64 x ≤ 9218868437227405312
bits-le x f h =
    let b = to_bits binary64 x in
    let e : of_bits binary64 b ≡ x = of_bits-to_bits binary64 x f in
    let low : T (not (leb 9223372036854775808 b)) = not_T (leb 9223372036854775808 b) (λ (u : T (leb 9223372036854775808 b)). T_not (minus x) h (subst (λ (z : Float). T (minus z)) e (high-minus b u))) in
    let n : T (not (ltb 9218868437227405312 (b % 9223372036854775808))) =
    subst (λ (z : Bool). T (not z)) (ap is_nan (sym e) ∙ sym (nan_bits_is binary64 b) ∙ nan_bits_above binary64 b) (no_nan x h) in
    subst (λ (z : ℕ). z ≤ 9218868437227405312) (mod-eq_of_lt (lt_of_not-le (λ (g : 9223372036854775808 ≤ b). T_not (leb 9223372036854775808 b) low (le→leb 9223372036854775808 b g))))
    (nltb→le 9218868437227405312 (b % 9223372036854775808) n)
