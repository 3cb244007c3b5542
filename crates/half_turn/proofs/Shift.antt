-- x + 1.5 * 2 ^ 52 is rounded to a whole number, and taking 1.5 * 2 ^ 52 away is exact. Assumes nothing.
use mathlib.Core.Path.{◌≡◌, refl, sym, ap, ◌∙◌, subst}
use mathlib.Core.Logic.{◌⊎◌, inl, inr}
use mathlib.Core.Bool.{Bool, true, false, not, cond, ◌&&◌, true≢false}
use Prim.Native.Nat.{ℕ, zero, suc, ◌+◌, ◌-◌, ◌*◌, ◌/◌, ◌%◌, ◌^◌, ◌≤◌, ◌<◌, compare}
use native.Mathlib.Nat.{le_trans, le_of_eq, lt_of_lt_of_le, lt_of_le_of_lt, lt_of_not-le, not-le_of_lt, le_antisymm, mul-one, mul_comm, mul_assoc, mul_right_comm, mul-le-mul_right, mul-lt-mul_of_pos_right, mul-pos, le-div_iff_mul-le, div-lt_iff_lt-mul, eq_of_mul-eq-mul_right, div-add-mod', mod-lt, mul-sub, mul-div_cancel}
use native.Mathlib.Omega.{arith}
use lib.IntN.{ℤ, pos, neg_ℤ}
use lib.Dec.{T, ltb, ltb→lt, lt→ltb, nltb→le, lit<, not_T}
use lib.Arith.{digits_div, digits_mod}
use lib.Pow.{pow-add, pow_pos, pow_mono}
use lib.Ieee.{Float, nan, inf, fin, binary64, up, down, round, units, size, sum, add, sub, to_bits, of_bits, of_int, is_nan}
use lib.Ieee.Digits.{size-lt, size-le}
use lib.Ieee.Fits.{down_pos, round_is, nearest-le}
use lib.Ieee.Bits.{is_true, is_false}
use lib.Ieee.Exact.{HasValue, units_val}
use lib.Ieee.Nearest.{closest, closest_same}
use lib.Ieee.Scale.{round_same}
use Rattle.half_turn.specs.declared.Turns.{Turns}
use Rattle.half_turn.specs.HalfTurn.{small, quarter_of, turns_of}
use Rattle.half_turn.proofs.Rounding.{less, more, tie}

-- ---- `closest` moves by an even whole number, and mirrors in one

-- for a = q * d + r with r < d
by_parts : (q r d : ℕ) → r < d → (T (ltb (r * 2) d) → closest (q * d + r) d ≡ q) × (T (ltb d (r * 2)) → closest (q * d + r) d ≡ q + 1) × (r * 2 ≡ d → closest (q * d + r) d ≡ q + q % 2)
by_parts q r d h =
    let e = digits_div q h in
    let f = digits_mod q h in (
      (λ t. less (q * d + r) d (subst (λ (x : ℕ). x * 2 < d) (sym f) (ltb→lt (r * 2) d t)) ∙ e),
      (λ t. more (q * d + r) d (subst (λ (x : ℕ). d < x * 2) (sym f) (ltb→lt d (r * 2) t)) ∙ ap (λ (x : ℕ). x + 1) e),
      (λ t. tie (q * d + r) d (ap (λ (x : ℕ). x * 2) f ∙ t) ∙ ap (λ (x : ℕ). x + x % 2) e),
    )

three : (a b : ℕ) → T (ltb a b) ⊎ (T (ltb b a) ⊎ (a ≡ b))
three a b = go (ltb a b) (ltb b a) (nltb→le a b) (nltb→le b a)
  where
    go : (p q : Bool) → (T (not p) → b ≤ a) → (T (not q) → a ≤ b) → T p ⊎ (T q ⊎ (a ≡ b))
    go true q f g = inl tt
    go false true f g = inr (inl tt)
    go false false f g = inr (inr (le_antisymm (g tt) (f tt)))

abbrev M : ℕ
M = 6755399441055744

plus-parts : (q r d : ℕ) → r < d → closest (M * d + (q * d + r)) d ≡ M + closest (q * d + r) d
plus-parts q r d h = ap (λ (x : ℕ). closest x d) (join q r d) ∙ go (three (r * 2) d)
  where
    join : (q r d : ℕ) → M * d + (q * d + r) ≡ (M + q) * d + r
    join q r d = omega arith

    one : (q : ℕ) → M + q + 1 ≡ M + (q + 1)
    one q = omega arith

    even : (q : ℕ) → M + q + (M + q) % 2 ≡ M + (q + q % 2)
    even q = omega arith

    go : T (ltb (r * 2) d) ⊎ (T (ltb d (r * 2)) ⊎ (r * 2 ≡ d)) → closest ((M + q) * d + r) d ≡ M + closest (q * d + r) d
    go (inl t) = (by_parts (M + q) r d h).0 t ∙ ap (λ (x : ℕ). M + x) (sym ((by_parts q r d h).0 t))
    go (inr (inl t)) = (by_parts (M + q) r d h).1 t ∙ one q ∙ ap (λ (x : ℕ). M + x) (sym ((by_parts q r d h).1 t))
    go (inr (inr t)) = (by_parts (M + q) r d h).2 t ∙ even q ∙ ap (λ (x : ℕ). M + x) (sym ((by_parts q r d h).2 t))

-- two numbers that make M * d
mirror : (q r u v d : ℕ) → r < d → v < d → r + v ≡ d → q + u + 1 ≡ M → closest (q * d + r) d + closest (u * d + v) d ≡ M
mirror q r u v d h k e f = go (three (r * 2) d)
  where
    over : (r v d : ℕ) → r + v ≡ d → r * 2 < d → d < v * 2
    over r v d e h = omega arith

    under : (r v d : ℕ) → r + v ≡ d → d < r * 2 → v * 2 < d
    under r v d e h = omega arith

    half : (r v d : ℕ) → r + v ≡ d → r * 2 ≡ d → v * 2 ≡ d
    half r v d e h = omega arith

    up-1 : (q u : ℕ) → q + u + 1 ≡ M → q + (u + 1) ≡ M
    up-1 q u e = omega arith

    up-2 : (q u : ℕ) → q + u + 1 ≡ M → q + 1 + u ≡ M
    up-2 q u e = omega arith

    even : (q u : ℕ) → q + u + 1 ≡ M → q + q % 2 + (u + u % 2) ≡ M
    even q u e = omega arith

    go : T (ltb (r * 2) d) ⊎ (T (ltb d (r * 2)) ⊎ (r * 2 ≡ d)) → closest (q * d + r) d + closest (u * d + v) d ≡ M
    go (inl t) =
        ap (λ (x : ℕ). x + closest (u * d + v) d) ((by_parts q r d h).0 t) ∙ ap (λ (x : ℕ). q + x) ((by_parts u v d k).1 (lt→ltb d (v * 2) (over r v d e (ltb→lt (r * 2) d t)))) ∙ up-1 q u f
    go (inr (inl t)) =
        ap (λ (x : ℕ). x + closest (u * d + v) d) ((by_parts q r d h).1 t) ∙ ap (λ (x : ℕ). q + 1 + x) ((by_parts u v d k).0 (lt→ltb (v * 2) d (under r v d e (ltb→lt d (r * 2) t)))) ∙ up-2 q u f
    go (inr (inr t)) =
        ap (λ (x : ℕ). x + closest (u * d + v) d) ((by_parts q r d h).2 t) ∙ ap (λ (x : ℕ). q + q % 2 + x) ((by_parts u v d k).2 (half r v d e t)) ∙ even q u f

closest-plus : (a d : ℕ) → 0 < d → closest (M * d + a) d ≡ M + closest a d
closest-plus a d D = subst (λ (x : ℕ). closest (M * d + x) d ≡ M + closest x d) (div-add-mod' a d) (plus-parts (a / d) (a % d) d (mod-lt a D))

closest-minus : (a d : ℕ) → 0 < d → a < M * d → closest a d + closest (M * d - a) d ≡ M
closest-minus a d D h = subst (λ (x : ℕ). closest x d + closest (M * d - x) d ≡ M) (div-add-mod' a d) (go (a % d) (mod-lt a D))
  where
    q-lt : a / d < M
    q-lt = (div-lt_iff_lt-mul D).1 h

    rest : (q r d u v b : ℕ) → (q + u + 1) * d ≡ M * d → r + v ≡ d → b ≡ M * d - (q * d + r) → b ≡ u * d + v
    rest q r d u v b e f g = omega arith

    rest_0 : (q d u b : ℕ) → (q + u) * d ≡ M * d → b ≡ M * d - (q * d + 0) → b ≡ u * d + 0
    rest_0 q d u b e g = omega arith

    up : (q : ℕ) → q < M → q + (M - (q + 1)) + 1 ≡ M
    up q h = omega arith

    all : (q : ℕ) → q < M → q + (M - q) ≡ M
    all q h = omega arith

    back : (r d : ℕ) → r < d → r + (d - r) ≡ d
    back r d h = omega arith

    less-d : (r d : ℕ) → suc r < d → d - suc r < d
    less-d r d h = omega arith

    go : (r : ℕ) → r < d → closest (a / d * d + r) d + closest (M * d - (a / d * d + r)) d ≡ M
    go zero l =
        let q = a / d in
        ap (λ (x : ℕ). closest (q * d + 0) d + closest x d) (rest_0 q d (M - q) (M * d - (q * d + 0)) (ap (λ (x : ℕ). x * d) (all q q-lt)) refl)
        ∙ ap (λ (x : ℕ). x + closest ((M - q) * d + 0) d) ((by_parts q 0 d l).0 (lt→ltb 0 d l))
        ∙ ap (λ (x : ℕ). q + x) ((by_parts (M - q) 0 d l).0 (lt→ltb 0 d l))
        ∙ all q q-lt
    go (suc r) l =
        let q = a / d in
        let u = M - (q + 1) in
        ap (λ (x : ℕ). closest (q * d + suc r) d + closest x d) (rest q (suc r) d u (d - suc r) (M * d - (q * d + suc r)) (ap (λ (x : ℕ). x * d) (up q q-lt)) (back (suc r) d l) refl)
        ∙ mirror q (suc r) u (d - suc r) d l (less-d r d l) (back (suc r) d l) (up q q-lt)

-- ---- a fraction between 2 ^ 52 and 2 ^ 53 rounds to a whole number

pow-back : (i j : ℕ) → 2 ^ i < 2 ^ j → i < j
pow-back i j h = lt_of_not-le (λ (g : j ≤ i). not-le_of_lt h (pow_mono g))

size_is : (n k : ℕ) → 2 ^ k ≤ n → n < 2 ^ suc k → size n ≡ suc k
size_is n k lo hi = le_antisymm (size-le n (suc k) hi) (pow-back k (size n) (lt_of_le_of_lt lo (size-lt n)))

pub whole : (N d : ℕ) → 0 < d → 4503599627370496 * d ≤ N → N < 9007199254740992 * d → HasValue (round binary64 false N d) false (closest N d) 1
whole N d D lo hi =
    let z : size (N * 2 ^ 1074 / d) ≡ 1127 =
    size_is (N * 2 ^ 1074 / d) 1126
    ((le-div_iff_mul-le D).1 (le_trans (le_of_eq (ap (λ (x : ℕ). x * d) (pow-add 2 52 1074) ∙ mul_right_comm 4503599627370496 (2 ^ 1074) d)) (mul-le-mul_right (2 ^ 1074) lo)))
    ((div-lt_iff_lt-mul D).1 (lt_of_lt_of_le (mul-lt-mul_of_pos_right hi (pow_pos 1074)) (le_of_eq (mul_right_comm 9007199254740992 d (2 ^ 1074) ∙ ap (λ (x : ℕ). x * d) (sym (pow-add 2 53 1074)))))) in
    let q = closest N d in
    let e : round binary64 false N d ≡ units binary64 false q 1074 =
    round_is binary64 false N d
    ∙ ap (λ (k : ℕ). units binary64 false (closest (N * 2 ^ 1074) (d * 2 ^ (k - 53))) (k - 53)) z
    ∙ ap (λ (x : ℕ). units binary64 false x 1074) (closest_same (N * 2 ^ 1074) (d * 2 ^ 1074) N d (mul-pos D (pow_pos 1074)) D (mul_assoc N (2 ^ 1074) d ∙ ap (λ (x : ℕ). N * x) (mul_comm (2 ^ 1074) d))) in
    let b : q ≤ 9007199254740992 = le_trans (nearest-le (N / d) (compare (N % d * 2) d)) ((div-lt_iff_lt-mul D).1 hi) in
    subst (λ (x : Float). HasValue x false q 1) (sym e)
    (scale (units binary64 false q 1074) q (units_val binary64 false q 1074 (lt_of_le_of_lt (mul-le-mul_right (2 ^ 1074) b) (lit< tt))))
  where
    scale : (x : Float) (q : ℕ) → HasValue x false (q * 2 ^ 1074) (2 ^ 1074) → HasValue x false q 1
    scale nan q v = absurd v
    scale (inf t) q v = absurd v
    scale (fin t m e) q v = (v.0, eq_of_mul-eq-mul_right (2 ^ 1074) (pow_pos 1074) (m * up e * 1) (q * down e) (ap (λ (x : ℕ). x * 2 ^ 1074) (mul-one (m * up e)) ∙ v.1 ∙ mul_right_comm q (2 ^ 1074) (down e)))

-- ---- y = x + M

abbrev Mf : Float
Mf = fin false 3 (pos 51)

pub magic-is : of_bits binary64 4843621399236968448 ≡ fin false 3 (pos 51)
unfolding of_bits
magic-is = refl

-- what is known of y: a whole number Q between 2 ^ 52 and 2 ^ 53, and n of x is Q - M, or M - Q
pub record Shifted (s : Bool) (n : ℕ) (y : Float) : Type 0 where
  pub Q : ℕ
  pub value : HasValue y false Q 1
  pub lo : 4503599627370496 ≤ Q
  pub hi : Q < 9007199254740992
  pub is : cond s (n + Q) Q ≡ cond s M (M + n)

n-le : (a d : ℕ) → 0 < d → a < 2147483648 * d → closest a d ≤ 2147483648
n-le a d D h = le_trans (nearest-le (a / d) (compare (a % d * 2) d)) ((div-lt_iff_lt-mul D).1 h)

plus-value : (a d : ℕ) → 0 < d → a < 2147483648 * d → Shifted false (closest a d) (round binary64 false (a * 1 + M * d) (d * 1))
plus-value a d D h =
    let e : a * 1 + M * d ≡ M * d + a = flip (a) (M * d) in
    let N = M * d + a in
    let v = whole N d D (low a d) (high a d h) in
    record {
      Q = M + closest a d;
      value = subst (λ (x : ℕ). HasValue (round binary64 false x (d * 1)) false (M + closest a d) 1) (sym e)
          (subst (λ (x : ℕ). HasValue (round binary64 false N x) false (M + closest a d) 1) (sym (mul-one d))
          (subst (λ (x : ℕ). HasValue (round binary64 false N d) false x 1) (closest-plus a d D) v));
      lo = below (closest a d);
      hi = above (closest a d) (n-le a d D h);
      is = refl;
    }
  where
    flip : (a b : ℕ) → a * 1 + b ≡ b + a
    flip a b = omega arith

    low : (a d : ℕ) → 4503599627370496 * d ≤ M * d + a
    low a d = omega arith

    high : (a d : ℕ) → a < 2147483648 * d → M * d + a < 9007199254740992 * d
    high a d h = omega arith

    below : (n : ℕ) → 4503599627370496 ≤ M + n
    below n = omega arith

    above : (n : ℕ) → n ≤ 2147483648 → M + n < 9007199254740992
    above n h = omega arith

minus-value : (a d : ℕ) → 0 < d → a < 2147483648 * d → Shifted true (closest a d) (round binary64 false (M * d - a * 1) (d * 1))
minus-value a d D h =
    let N = M * d - a in
    let v = whole N d D (low a d h) (high a d D) in
    let m = closest-minus a d D (inside a d h) in
    record {
      Q = closest N d;
      value = subst (λ (x : ℕ). HasValue (round binary64 false (M * d - x) (d * 1)) false (closest N d) 1) (sym (mul-one a))
          (subst (λ (x : ℕ). HasValue (round binary64 false N x) false (closest N d) 1) (sym (mul-one d)) v);
      lo = below (closest a d) (closest N d) m (n-le a d D h);
      hi = above (closest a d) (closest N d) m;
      is = m;
    }
  where
    low : (a d : ℕ) → a < 2147483648 * d → 4503599627370496 * d ≤ M * d - a
    low a d h = omega arith

    high : (a d : ℕ) → 0 < d → M * d - a < 9007199254740992 * d
    high a d h = omega arith

    inside : (a d : ℕ) → a < 2147483648 * d → a < M * d
    inside a d h = omega arith

    below : (n q : ℕ) → n + q ≡ M → n ≤ 2147483648 → 4503599627370496 ≤ q
    below n q e h = omega arith

    above : (n q : ℕ) → n + q ≡ M → q < 9007199254740992
    above n q e = omega arith

-- x's sign, and the size of its nearest whole number
abbrev pub minus_of : Float → Bool
minus_of nan = false
minus_of (inf s) = false
minus_of (fin s m e) = s

abbrev pub size_of : Float → ℕ
size_of nan = 0
size_of (inf s) = 0
size_of (fin s m e) = closest (m * up e) (down e)

pub shifted : (x : Float) → T (small x) → Shifted (minus_of x) (size_of x) (add binary64 x Mf)
unfolding add sum
shifted nan h = absurd h
shifted (inf s) h = absurd h
shifted (fin false m e) h = plus-value (m * up e) (down e) (down_pos e) (ltb→lt (m * up e) (2147483648 * down e) h)
shifted (fin true m e) h =
    let l = ltb→lt (m * up e) (2147483648 * down e) h in
    subst (λ (b : Bool). Shifted true (closest (m * up e) (down e)) (cond b (round binary64 false (M * down e - m * up e * 1) (down e * 1)) (round binary64 (true && ltb (M * down e) (m * up e * 1)) (m * up e * 1 - M * down e) (down e * 1))))
    (sym (is_true (ltb (m * up e * 1) (M * down e)) (lt→ltb (m * up e * 1) (M * down e) (inside (m * up e) (down e) l))))
    (minus-value (m * up e) (down e) (down_pos e) l)
  where
    inside : (a d : ℕ) → a < 2147483648 * d → a * 1 < M * d
    inside a d h = omega arith

-- ---- y - M

-- a whole number taken away from another
pub exact-up : (y : Float) (Q : ℕ) → HasValue y false Q 1 → M ≤ Q → sub binary64 y Mf ≡ round binary64 false (Q - M) 1
unfolding sub sum
exact-up nan Q v h = absurd v
exact-up (inf t) Q v h = absurd v
exact-up (fin true p g) Q v h = absurd (true≢false v.0)
exact-up (fin false p g) Q v h =
    let d = down g in
    ap (λ (x : ℕ). cond (ltb x (M * d)) (round binary64 true (M * d - x) (d * 1)) (round binary64 false (x - M * d) (d * 1))) v.1
    ∙ ap (λ (b : Bool). cond b (round binary64 true (M * d - Q * d) (d * 1)) (round binary64 false (Q * d - M * d) (d * 1)))
    (is_false (ltb (Q * d) (M * d)) (not_T (ltb (Q * d) (M * d)) (λ (u : T (ltb (Q * d) (M * d))). not-le_of_lt (ltb→lt (Q * d) (M * d) u) (mul-le-mul_right d h))))
    ∙ round_same binary64 false (Q * d - M * d) (d * 1) (Q - M) 1 (subst (λ (x : ℕ). 0 < x) (sym (mul-one d)) (down_pos g)) (lit< tt) (cross Q d)
  where
    cross : (Q d : ℕ) → (Q * d - M * d) * 1 ≡ (Q - M) * (d * 1)
    cross Q d = mul-one (Q * d - M * d) ∙ sym (ap (λ (x : ℕ). (Q - M) * x) (mul-one d) ∙ mul_comm (Q - M) d ∙ mul-sub d Q M ∙ ap (λ (x : ℕ). x - d * M) (mul_comm d Q) ∙ ap (λ (x : ℕ). Q * d - x) (mul_comm d M))

pub exact-down : (y : Float) (Q : ℕ) → HasValue y false Q 1 → Q < M → sub binary64 y Mf ≡ round binary64 true (M - Q) 1
unfolding sub sum
exact-down nan Q v h = absurd v
exact-down (inf t) Q v h = absurd v
exact-down (fin true p g) Q v h = absurd (true≢false v.0)
exact-down (fin false p g) Q v h =
    let d = down g in
    ap (λ (x : ℕ). cond (ltb x (M * d)) (round binary64 true (M * d - x) (d * 1)) (round binary64 false (x - M * d) (d * 1))) v.1
    ∙ ap (λ (b : Bool). cond b (round binary64 true (M * d - Q * d) (d * 1)) (round binary64 false (Q * d - M * d) (d * 1)))
    (is_true (ltb (Q * d) (M * d)) (lt→ltb (Q * d) (M * d) (mul-lt-mul_of_pos_right h (down_pos g))))
    ∙ round_same binary64 true (M * d - Q * d) (d * 1) (M - Q) 1 (subst (λ (x : ℕ). 0 < x) (sym (mul-one d)) (down_pos g)) (lit< tt) (cross Q d)
  where
    cross : (Q d : ℕ) → (M * d - Q * d) * 1 ≡ (M - Q) * (d * 1)
    cross Q d = mul-one (M * d - Q * d) ∙ sym (ap (λ (x : ℕ). (M - Q) * x) (mul-one d) ∙ mul_comm (M - Q) d ∙ mul-sub d M Q ∙ ap (λ (x : ℕ). x - d * Q) (mul_comm d M) ∙ ap (λ (x : ℕ). M * d - x) (mul_comm d Q))

-- ---- y's last two digits

pub last-two : (y : Float) (Q : ℕ) → HasValue y false Q 1 → 4503599627370496 ≤ Q → Q < 9007199254740992 → to_bits binary64 y % 4 ≡ Q % 4
unfolding to_bits
last-two nan Q v lo hi = absurd v
last-two (inf t) Q v lo hi = absurd v
last-two (fin true p g) Q v lo hi = absurd (true≢false v.0)
last-two (fin false p g) Q v lo hi =
    let e : p * up g * 2 ^ 1074 / down g ≡ Q * 2 ^ 1074 =
    ap (λ (x : ℕ). x / down g) (ap (λ (x : ℕ). x * 2 ^ 1074) (sym (mul-one (p * up g)) ∙ v.1) ∙ mul_right_comm Q (down g) (2 ^ 1074)) ∙ mul-div_cancel (Q * 2 ^ 1074) (down_pos g) in
    let z : size (Q * 2 ^ 1074) ≡ 1127 =
    size_is (Q * 2 ^ 1074) 1126 (le_trans (le_of_eq (pow-add 2 52 1074)) (mul-le-mul_right (2 ^ 1074) lo)) (lt_of_lt_of_le (mul-lt-mul_of_pos_right hi (pow_pos 1074)) (le_of_eq (sym (pow-add 2 53 1074)))) in
    ap (λ (n : ℕ). (0 + (size n - 53) * 4503599627370496 + n / 2 ^ (size n - 53)) % 4) e
    ∙ ap (λ (k : ℕ). (0 + (k - 53) * 4503599627370496 + Q * 2 ^ 1074 / 2 ^ (k - 53)) % 4) z
    ∙ ap (λ (n : ℕ). (0 + 1074 * 4503599627370496 + n) % 4) (mul-div_cancel Q (pow_pos 1074))
    ∙ four Q
  where
    four : (Q : ℕ) → (0 + 1074 * 4503599627370496 + Q) % 4 ≡ Q % 4
    four Q = omega arith

-- ---- the answer

finite : (x : Float) (Q : ℕ) → HasValue x false Q 1 → T (not (is_nan x))
unfolding is_nan
finite nan Q v = absurd v
finite (inf t) Q v = tt
finite (fin t m e) Q v = tt

pub no_nan : (x : Float) → T (small x) → T (not (is_nan (add binary64 x (of_bits binary64 4843621399236968448))))
no_nan x h = subst (λ (z : Float). T (not (is_nan (add binary64 x z)))) (sym magic-is) (finite (add binary64 x Mf) (shifted x h).Q (shifted x h).value)

of-plus : (n : ℕ) (y : Float) → Shifted false n y → (sub binary64 y Mf ≡ of_int binary64 (pos n)) × (to_bits binary64 y % 4 ≡ quarter_of (pos n))
unfolding of_int quarter_of
of-plus n y S =
    let e : S.Q ≡ M + n = S.is in
    (exact-up y S.Q S.value (ge S.Q n e) ∙ ap (λ (k : ℕ). round binary64 false k 1) (back S.Q n e), last-two y S.Q S.value S.lo S.hi ∙ four S.Q n e)
  where
    ge : (q n : ℕ) → q ≡ M + n → M ≤ q
    ge q n e = omega arith

    back : (q n : ℕ) → q ≡ M + n → q - M ≡ n
    back q n e = omega arith

    four : (q n : ℕ) → q ≡ M + n → q % 4 ≡ n % 4
    four q n e = omega arith

of-minus : (n : ℕ) (y : Float) → Shifted true n y → (sub binary64 y Mf ≡ of_int binary64 (neg_ℤ (pos n))) × (to_bits binary64 y % 4 ≡ quarter_of (neg_ℤ (pos n)))
unfolding of_int quarter_of
of-minus zero y S =
    let e : 0 + S.Q ≡ M = S.is in
    (exact-up y S.Q S.value (ge S.Q e) ∙ ap (λ (k : ℕ). round binary64 false k 1) (back S.Q e), last-two y S.Q S.value S.lo S.hi ∙ four S.Q e)
  where
    ge : (q : ℕ) → 0 + q ≡ M → M ≤ q
    ge q e = omega arith

    back : (q : ℕ) → 0 + q ≡ M → q - M ≡ 0
    back q e = omega arith

    four : (q : ℕ) → 0 + q ≡ M → q % 4 ≡ 0 % 4
    four q e = omega arith
of-minus (suc k) y S =
    let e : suc k + S.Q ≡ M = S.is in
    (exact-down y S.Q S.value (lt k S.Q e) ∙ ap (λ (n : ℕ). round binary64 true n 1) (back k S.Q e), last-two y S.Q S.value S.lo S.hi ∙ four k S.Q e)
  where
    lt : (k q : ℕ) → suc k + q ≡ M → q < M
    lt k q e = omega arith

    back : (k q : ℕ) → suc k + q ≡ M → M - q ≡ suc k
    back k q e = omega arith

    four : (k q : ℕ) → suc k + q ≡ M → q % 4 ≡ 3 - k % 4
    four k q e = omega arith

pub answer : (x : Float) → T (small x)
    → ◌≡◌ {A = Turns} (record { whole = sub binary64 (add binary64 x (of_bits binary64 4843621399236968448)) (of_bits binary64 4843621399236968448); quarter = to_bits binary64 (add binary64 x (of_bits binary64 4843621399236968448)) % 4 }) (turns_of x)
unfolding turns_of
answer x h = subst (λ (z : Float). ◌≡◌ {A = Turns} (record { whole = sub binary64 (add binary64 x z) z; quarter = to_bits binary64 (add binary64 x z) % 4 }) (turns_of x)) (sym magic-is) (go x h (shifted x h))
  where
    both : (y z : Float) (p : ℕ) (w : ℤ) → y ≡ of_int binary64 w → p ≡ quarter_of w → ◌≡◌ {A = Turns} (record { whole = y; quarter = p }) (record { whole = of_int binary64 w; quarter = quarter_of w })
    both y z p w e f = λ i. record { whole = e i; quarter = f i }

    go : (x : Float) → T (small x) → Shifted (minus_of x) (size_of x) (add binary64 x Mf) → ◌≡◌ {A = Turns} (record { whole = sub binary64 (add binary64 x Mf) Mf; quarter = to_bits binary64 (add binary64 x Mf) % 4 }) (turns_of x)
    go nan h S = absurd h
    go (inf s) h S = absurd h
    go (fin true m e) h S = let r = of-minus (closest (m * up e) (down e)) (add binary64 (fin true m e) Mf) S in both (sub binary64 (add binary64 (fin true m e) Mf) Mf) nan (to_bits binary64 (add binary64 (fin true m e) Mf) % 4) (neg_ℤ (pos (closest (m * up e) (down e)))) r.0 r.1
    go (fin false m e) h S = let r = of-plus (closest (m * up e) (down e)) (add binary64 (fin false m e) Mf) S in both (sub binary64 (add binary64 (fin false m e) Mf) Mf) nan (to_bits binary64 (add binary64 (fin false m e) Mf) % 4) (pos (closest (m * up e) (down e))) r.0 r.1
