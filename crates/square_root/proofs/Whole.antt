-- The pattern that is worked out from N = X / 4 ^ h, which has 107 or 108 binary digits, and its root. Assumes nothing.
use mathlib.Core.Path.{◌≡◌, refl, sym, ap, ◌∙◌, subst}
use mathlib.Core.Bool.{Bool, true, false, not, cond}
use Prim.Native.Nat.{ℕ, zero, suc, ◌+◌, ◌-◌, ◌*◌, ◌/◌, ◌%◌, ◌^◌, ◌≤◌, ◌<◌}
use native.Mathlib.Nat.{pow-suc, mul-le-mul, lt_of_not-le, not-le_of_lt, le_trans, le_of_eq, lt_of_lt_of_le, lt_of_le_of_lt, mul-lt-mul_of_pos_right, mul-le-mul_right, mul-div_cancel, le_antisymm, le_of_suc-le-suc, mul_assoc, mod-eq_of_lt}
use native.Mathlib.Omega.{arith}
use lib.Dec.{T, leb, ltb, leb→le, nleb→lt, ltb→lt}
use lib.Pow.{pow-add, pow_pos, pow_mono}
use lib.Count.{count_leading_zeros, leading_top}
use lib.Ieee.{size}
use lib.Ieee.Digits.{size-lt, size-le}
use Rattle.square_root.specs.SquareRoot.{isqrt, pattern_of, sig_of}

-- ---- whole roots

pub root-le : (r s n : ℕ) → r * r ≤ n → n < (s + 1) * (s + 1) → r ≤ s
root-le r s n h k = le_of_suc-le-suc (lt_of_not-le (λ (g : suc s ≤ r). clash r s n h k (mul-le-mul (two r s g) (two r s g))))
  where
    two : (r s : ℕ) → suc s ≤ r → s + 1 ≤ r
    two r s g = omega arith

    clash : (r s n : ℕ) → r * r ≤ n → n < (s + 1) * (s + 1) → (s + 1) * (s + 1) ≤ r * r → ⊥
    clash r s n h k l = omega arith

pub root-unique : (r s n : ℕ) → r * r ≤ n → n < (r + 1) * (r + 1) → s * s ≤ n → n < (s + 1) * (s + 1) → r ≡ s
root-unique r s n a b c d = le_antisymm (root-le r s n a d) (root-le s r n c b)

step : (b : Bool) (r s n : ℕ) → r ≡ 2 * s → s * s ≤ n / 4 → n / 4 < (s + 1) * (s + 1) → (T b → (r + 1) * (r + 1) ≤ n) → (T (not b) → n < (r + 1) * (r + 1))
    → (cond b (r + 1) r * cond b (r + 1) r ≤ n) × (n < (cond b (r + 1) r + 1) * (cond b (r + 1) r + 1))
step true r s n e lo hi y z = (y tt, top r s n e hi)
  where
    top : (r s n : ℕ) → r ≡ 2 * s → n / 4 < (s + 1) * (s + 1) → n < (r + 1 + 1) * (r + 1 + 1)
    top r s n e h = subst (λ (x : ℕ). n < (x + 1 + 1) * (x + 1 + 1)) (sym e) (at s n h)
      where
        at : (s n : ℕ) → n / 4 < (s + 1) * (s + 1) → n < (2 * s + 1 + 1) * (2 * s + 1 + 1)
        at s n h = omega arith
step false r s n e lo hi y z = (subst (λ (x : ℕ). x * x ≤ n) (sym e) (at s n lo), z tt)
  where
    at : (s n : ℕ) → s * s ≤ n / 4 → 2 * s * (2 * s) ≤ n
    at s n h = omega arith

pub isqrt-is : (d n : ℕ) → n < 4 ^ d → (isqrt d n * isqrt d n ≤ n) × (n < (isqrt d n + 1) * (isqrt d n + 1))
unfolding isqrt
isqrt-is zero n h = (omega arith, omega arith)
isqrt-is (suc d) n h =
    let i = isqrt-is d (n / 4) (quarter n (4 ^ d) (subst (λ (x : ℕ). n < x) (pow-suc 4 d) h)) in
    let r = 2 * isqrt d (n / 4) in
    step (leb ((r + 1) * (r + 1)) n) r (isqrt d (n / 4)) n refl i.0 i.1 (leb→le ((r + 1) * (r + 1)) n) (nleb→lt ((r + 1) * (r + 1)) n)
  where
    quarter : (n p : ℕ) → n < p * 4 → n / 4 < p
    quarter n p h = omega arith

-- ---- 4 ^ h

pub four_is : (h : ℕ) → 4 ^ h ≡ 2 ^ (2 * h)
four_is zero = refl
four_is (suc h) = pow-suc 4 h ∙ ap (λ (x : ℕ). x * 4) (four_is h) ∙ sym (pow-add 2 (2 * h) 2) ∙ ap (λ (x : ℕ). 2 ^ x) (more h)
  where
    more : (h : ℕ) → 2 * h + 2 ≡ 2 * suc h
    more h = omega arith

pow-back : (i j : ℕ) → 2 ^ i < 2 ^ j → i < j
pow-back i j h = lt_of_not-le (λ (g : j ≤ i). not-le_of_lt h (pow_mono g))

-- ---- the pattern

-- N is 2 ^ 106 at least and below 2 ^ 108
pub pattern-at : (X N h r : ℕ) → X ≡ N * 4 ^ h → 2 ^ 106 ≤ N → N < 2 ^ 108 → r * r ≤ N → N < (r + 1) * (r + 1) → pattern_of X ≡ (h + 1) * 4503599627370496 + (r + 1) / 2
unfolding pattern_of
pattern-at X N h r e lo hi a b =
    let x : X ≡ N * 2 ^ (2 * h) = e ∙ ap (λ (z : ℕ). N * z) (four_is h) in
    let z = size X in
    let up : 106 + 2 * h < z = pow-back (106 + 2 * h) z (lt_of_le_of_lt (subst (λ (y : ℕ). 2 ^ (106 + 2 * h) ≤ y) (sym x) (le_trans (le_of_eq (pow-add 2 106 (2 * h))) (mul-le-mul_right (2 ^ (2 * h)) lo))) (size-lt X)) in
    let dn : z ≤ 108 + 2 * h = size-le X (108 + 2 * h) (subst (λ (y : ℕ). y < 2 ^ (108 + 2 * h)) (sym x) (lt_of_lt_of_le (mul-lt-mul_of_pos_right hi (pow_pos (2 * h))) (le_of_eq (sym (pow-add 2 108 (2 * h)))))) in
    let at : (z - 1) / 2 - 53 ≡ h = mid z h up dn in
    let q : X / 4 ^ h ≡ N = ap (λ (y : ℕ). y / 4 ^ h) e ∙ mul-div_cancel N (subst (λ (y : ℕ). 0 < y) (sym (four_is h)) (pow_pos (2 * h))) in
    let s = isqrt-is 54 N (subst (λ (y : ℕ). N < y) refl hi) in
    let root : isqrt 54 (X / 4 ^ h) ≡ r = ap (λ (y : ℕ). isqrt 54 y) q ∙ root-unique (isqrt 54 N) r N s.0 s.1 a b in
    ap (λ (y : ℕ). (y + 1) * 4503599627370496 + (isqrt 54 (X / 4 ^ y) + 1) / 2) at
    ∙ ap (λ (y : ℕ). (h + 1) * 4503599627370496 + (y + 1) / 2) root
  where
    mid : (z h : ℕ) → 106 + 2 * h < z → z ≤ 108 + 2 * h → (z - 1) / 2 - 53 ≡ h
    mid z h a b = omega arith

-- ---- the digits and the exponent of a pattern

pub sig-lt : (b : ℕ) → sig_of b < 9007199254740992
sig-lt b = go (ltb b 4503599627370496) (ltb→lt b 4503599627370496)
  where
    go : (t : Bool) → (T t → b < 4503599627370496) → cond t b (4503599627370496 + b % 4503599627370496) < 9007199254740992
    go true h = let l = h tt in omega arith
    go false h = omega arith

pub sig-pos : (b : ℕ) → 0 < b → 0 < sig_of b
sig-pos b p = go (ltb b 4503599627370496)
  where
    go : (t : Bool) → 0 < cond t b (4503599627370496 + b % 4503599627370496)
    go true = p
    go false = omega arith

-- ---- the shift, and how it makes N

-- a number c of suc j binary digits with z zeros before them, in a word of 64
pub record Lead (c z : ℕ) : Type 0 where
  pub j : ℕ
  pub sum : z + suc j ≡ 64
  pub lo : 2 ^ j ≤ c
  pub hi : c < 2 ^ suc j

pub lead : (c : ℕ) → 0 < c → c < 9007199254740992 → Lead c (count_leading_zeros 64 c)
lead c p h = let l = leading_top 64 c p (wide c h) in record { j = l.0; sum = l.1; lo = l.2; hi = l.3 }
  where
    wide : (c : ℕ) → c < 9007199254740992 → c < 18446744073709551616
    wide c h = omega arith

-- at least eleven zeros
pub eleven : (c z : ℕ) → c < 9007199254740992 → Lead c z → (11 ≤ z) × (z ≤ 63)
eleven c z h l =
    let e = l.sum in
    let b : l.j < 53 = pow-back l.j 53 (lt_of_le_of_lt l.lo h) in
    (omega arith, omega arith)

abbrev pub shift : ℕ → ℕ → ℕ
shift z k = z - (z + k) % 2

-- with c shifted so, N is (c << s) * 2 ^ 44, and c * 2 ^ (k + 1074) is N * 4 ^ h
pub shifted : (c z k : ℕ) → c < 9007199254740992 → Lead c z → (c * 2 ^ shift z k) % 18446744073709551616 ≡ c * 2 ^ shift z k
shifted c z k h l = mod-eq_of_lt (lt_of_lt_of_le (mul-lt-mul_of_pos_right l.hi (pow_pos (shift z k))) (le_trans (le_of_eq (sym (pow-add 2 (suc l.j) (shift z k)))) (pow_mono {j = 64} (le l.j z k l.sum))))
  where
    le : (j z k : ℕ) → z + suc j ≡ 64 → suc j + shift z k ≤ 64
    le j z k e = omega arith

pub N-lo : (c z k : ℕ) → c < 9007199254740992 → Lead c z → 2 ^ 106 ≤ c * 2 ^ shift z k * 17592186044416
N-lo c z k h l = mul-le-mul_right 17592186044416 (le_trans (pow_mono {i = 62} (ge l.j z k l.sum (eleven c z h l).0)) (le_trans (le_of_eq (pow-add 2 l.j (shift z k))) (mul-le-mul_right (2 ^ shift z k) l.lo)))
  where
    ge : (j z k : ℕ) → z + suc j ≡ 64 → 11 ≤ z → 62 ≤ j + shift z k
    ge j z k e h = omega arith

pub N-hi : (w : ℕ) → w < 18446744073709551616 → w * 17592186044416 < 2 ^ 108
N-hi w h = omega arith

abbrev pub half : ℕ → ℕ → ℕ
half k s = (k + 1074 - s) / 2 - 22

pub total : (c z k : ℕ) → z ≤ 63 → 11 ≤ z → c * 2 ^ (k + 1074) ≡ c * 2 ^ shift z k * 17592186044416 * 4 ^ half k (shift z k)
total c z k h g =
    let s = shift z k in
    let t = half k s in
    ap (λ (x : ℕ). c * 2 ^ x) (parts z k h g)
    ∙ ap (λ (x : ℕ). c * x) (pow-add 2 (s + 44) (2 * t) ∙ ap (λ (x : ℕ). x * 2 ^ (2 * t)) (pow-add 2 s 44))
    ∙ sym (mul_assoc c (2 ^ s * 2 ^ 44) (2 ^ (2 * t)))
    ∙ ap (λ (x : ℕ). x * 2 ^ (2 * t)) (sym (mul_assoc c (2 ^ s) (2 ^ 44)))
    ∙ ap (λ (x : ℕ). c * 2 ^ s * 17592186044416 * x) (sym (four_is t))
  where
    parts : (z k : ℕ) → z ≤ 63 → 11 ≤ z → k + 1074 ≡ shift z k + 44 + 2 * half k (shift z k)
    parts z k h g = omega arith

pub root-small : (r w : ℕ) → w < 18446744073709551616 → r * r ≤ w * 17592186044416 → r < 18014398509481984
root-small r w h k = lt_of_not-le (λ (g : 18014398509481984 ≤ r). clash r w h k (mul-le-mul g g))
  where
    clash : (r w : ℕ) → w < 18446744073709551616 → r * r ≤ w * 17592186044416 → 18014398509481984 * 18014398509481984 ≤ r * r → ⊥
    clash r w h k l = omega arith
