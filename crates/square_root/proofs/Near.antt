-- The double that `pattern_of` writes is nearer the root than any other. In units of 2 ^ -1074: X is N * 4 ^ h, r the root of N, cut, of 54 digits, and the double q * 2 ^ (h + 1) for q = (r + 1) / 2.
-- A tie would need N to be the square of an odd r, and N is even. Assumes nothing.
use mathlib.Core.Path.{◌≡◌, refl, sym, ap, ◌∙◌, subst}
use mathlib.Core.Logic.{◌⊎◌, inl, inr}
use mathlib.Core.Bool.{Bool, true, false, not, ◌&&◌}
use Prim.Native.Nat.{ℕ, zero, suc, ◌+◌, ◌-◌, ◌*◌, ◌/◌, ◌%◌, ◌^◌, ◌≤◌, ◌<◌}
use native.Mathlib.Nat.{le_trans, le_of_eq, lt_of_lt_of_le, lt_of_le_of_lt, not-le_of_lt, lt_of_not-le, mul_assoc, mul-mul-mul_comm, mul-one, zero-mul, mul-le-mul, mul-le-mul_right, mul-lt-mul_of_pos_right, lt_of_mul-lt-mul_right, mul-pos, mul-div_cancel, eq-or-lt_of_le, zero-div, div-one, le_of_suc-le-suc}
use native.Mathlib.Omega.{arith}
use lib.IntN.{pos, negsuc}
use lib.Dec.{T, leb, ltb, eqb, leb→le, ltb→lt, nltb→le, lit<}
use lib.Pow.{pow-add, pow_pos, pow_mono, pow-lt}
use lib.Ieee.{Float, nan, inf, fin, binary64, up, down, fits}
use lib.Ieee.Fits.{and_l, and_r}
use Rattle.square_root.specs.SquareRoot.{mag}

-- ---- squares

sq-le : (a b : ℕ) → a ≤ b → a * a ≤ b * b
sq-le a b h = mul-le-mul h h

sq-lt : (a b : ℕ) → a < b → a * a < b * b
sq-lt a b h = lt_of_lt_of_le (one a) (sq-le (suc a) b h)
  where
    one : (a : ℕ) → a * a < suc a * suc a
    one a = omega arith

-- ---- where the doubles are: Y = a * 2 ^ j with a of 53 digits at most, beside R = q * 2 ^ g with q of 53 digits

pow-back : (i j : ℕ) → 2 ^ i < 2 ^ j → i < j
pow-back i j h = lt_of_not-le (λ (g : j ≤ i). not-le_of_lt h (pow_mono g))

split : (g j : ℕ) → (j < g) ⊎ (g ≤ j)
split g j = go (ltb j g) (ltb→lt j g) (nltb→le j g)
  where
    go : (b : Bool) → (T b → j < g) → (T (not b) → g ≤ j) → (j < g) ⊎ (g ≤ j)
    go true h k = inl (h tt)
    go false h k = inr (k tt)

-- a multiple of 2 ^ g
multiple : (a g j : ℕ) → g ≤ j → a * 2 ^ j ≡ a * 2 ^ (j - g) * 2 ^ g
multiple a g j h = ap (λ (x : ℕ). a * 2 ^ x) (sym (back j g h)) ∙ ap (λ (x : ℕ). a * x) (pow-add 2 (j - g) g) ∙ sym (mul_assoc a (2 ^ (j - g)) (2 ^ g))
  where
    back : (j g : ℕ) → g ≤ j → j - g + g ≡ j
    back j g h = omega arith

-- with an exponent below g, Y is below 2 ^ 52 * 2 ^ g
low : (a g j : ℕ) → a < 2 ^ 53 → j < g → a * 2 ^ j < 4503599627370496 * 2 ^ g
low a g j h k =
    lt_of_lt_of_le (mul-lt-mul_of_pos_right h (pow_pos j))
    (le_trans (le_of_eq (sym (pow-add 2 53 j))) (le_trans (pow_mono (le j g k)) (le_of_eq (pow-add 2 52 g))))
  where
    le : (j g : ℕ) → j < g → 53 + j ≤ 52 + g
    le j g h = omega arith

-- the next double above is 2 ^ g away at least
pub gap-above : (a j q g : ℕ) → a < 2 ^ 53 → 4503599627370496 ≤ q → q * 2 ^ g < a * 2 ^ j → (q + 1) * 2 ^ g ≤ a * 2 ^ j
gap-above a j q g A Q h = go (split g j)
  where
    clash : (y p q : ℕ) → y < 4503599627370496 * p → 4503599627370496 * p ≤ q → q < y → ⊥
    clash y p q h k l = omega arith

    next : (q b : ℕ) → q < b → q + 1 ≤ b
    next q b h = omega arith

    go : (j < g) ⊎ (g ≤ j) → (q + 1) * 2 ^ g ≤ a * 2 ^ j
    go (inl k) = absurd (clash (a * 2 ^ j) (2 ^ g) (q * 2 ^ g) (low a g j A k) (mul-le-mul_right (2 ^ g) Q) h)
    go (inr k) =
        let e = multiple a g j k in
        let b = a * 2 ^ (j - g) in
        le_trans (mul-le-mul_right (2 ^ g) (next q b (lt_of_mul-lt-mul_right (2 ^ g) (subst (λ (x : ℕ). q * 2 ^ g < x) e h)))) (le_of_eq (sym e))

-- and so is the next one below, unless q is 2 ^ 52
pub gap_below : (a j q g : ℕ) → a < 2 ^ 53 → 4503599627370496 < q → a * 2 ^ j < q * 2 ^ g → a * 2 ^ j + 2 ^ g ≤ q * 2 ^ g
gap_below a j q g A Q h = go (split g j)
  where
    far : (y p q : ℕ) → y < 4503599627370496 * p → 4503599627370497 * p ≤ q → y + p ≤ q
    far y p q h k = omega arith

    close : (b q p : ℕ) → (b + 1) * p ≤ q → b * p + p ≤ q
    close b q p h = omega arith

    next : (q b : ℕ) → q < b → q + 1 ≤ b
    next q b h = omega arith

    go : (j < g) ⊎ (g ≤ j) → a * 2 ^ j + 2 ^ g ≤ q * 2 ^ g
    go (inl k) = far (a * 2 ^ j) (2 ^ g) (q * 2 ^ g) (low a g j A k) (mul-le-mul_right (2 ^ g) Q)
    go (inr k) =
        let e = multiple a g j k in
        let b = a * 2 ^ (j - g) in
        subst (λ (x : ℕ). x + 2 ^ g ≤ q * 2 ^ g) (sym e)
        (close b (q * 2 ^ g) (2 ^ g) (mul-le-mul_right (2 ^ g) (next b q (lt_of_mul-lt-mul_right (2 ^ g) (subst (λ (x : ℕ). x < q * 2 ^ g) e h)))))

-- ---- the double is nearest. p is 2 ^ h, and the double q * (p + p)

odd-sq : (r n : ℕ) → r * r ≤ n → n % 2 ≡ 0 → r % 2 ≡ 1 → r * r < n
odd-sq r n h e o = go (eq-or-lt_of_le h)
  where
    half : (r k : ℕ) → r ≡ 2 * k + 1 → r * r % 2 ≡ 1
    half r k e = subst (λ (x : ℕ). x * x % 2 ≡ 1) (sym e) (at k)
      where
        at : (k : ℕ) → (2 * k + 1) * (2 * k + 1) % 2 ≡ 1
        at k = omega arith

    parts : (r : ℕ) → r % 2 ≡ 1 → r ≡ 2 * (r / 2) + 1
    parts r o = omega arith

    clash : (s n : ℕ) → s ≡ n → n % 2 ≡ 0 → s % 2 ≡ 1 → ⊥
    clash s n e z o = omega arith

    go : (r * r ≡ n) ⊎ (r * r < n) → r * r < n
    go (inl d) = absurd (clash (r * r) n d e (half r (r / 2) (parts r o)))
    go (inr d) = d

scaled : (t n p : ℕ) → t * t < 4 * n → 0 < p → t * p * (t * p) < 4 * (n * (p * p))
scaled t n p h P =
    lt_of_lt_of_le (subst (λ (x : ℕ). x < 4 * n * (p * p)) (sym (mul-mul-mul_comm t p t p)) (mul-lt-mul_of_pos_right h (mul-pos P P))) (le_of_eq (mul_assoc 4 n (p * p)))

scaled-up : (t n p : ℕ) → 4 * n < t * t → 0 < p → 4 * (n * (p * p)) < t * p * (t * p)
scaled-up t n p h P =
    lt_of_le_of_lt (le_of_eq (sym (mul_assoc 4 n (p * p)))) (subst (λ (x : ℕ). 4 * n * (p * p) < x) (mul-mul-mul_comm t t p p) (mul-lt-mul_of_pos_right h (mul-pos P P)))

-- a smaller double y, by r's parity
pub nearer-below : (N r p y : ℕ) → r * r ≤ N → N % 2 ≡ 0 → 0 < p → y < (r + 1) / 2 * (p + p)
    → (r % 2 ≡ 1 → y + (p + p) ≤ (r + 1) / 2 * (p + p))
    → (y + (r + 1) / 2 * (p + p)) * (y + (r + 1) / 2 * (p + p)) < 4 * (N * (p * p))
nearer-below N r p y lo even P h gap = go (parity r)
  where
    parity : (r : ℕ) → (r % 2 ≡ 0) ⊎ (r % 2 ≡ 1)
    parity r = at (r % 2) refl (two r)
      where
        two : (r : ℕ) → r % 2 < 2
        two r = omega arith

        at : (x : ℕ) → r % 2 ≡ x → x < 2 → (r % 2 ≡ 0) ⊎ (r % 2 ≡ 1)
        at zero e l = inl e
        at (suc zero) e l = inr e
        at (suc (suc x)) e l = absurd (no x l)
          where
            no : (x : ℕ) → suc (suc x) < 2 → ⊥
            no x l = omega arith

    four : (r n : ℕ) → r * r ≤ n → 2 * r * (2 * r) ≤ 4 * n
    four r n h = omega arith

    four-lt : (r n : ℕ) → r * r < n → 2 * r * (2 * r) < 4 * n
    four-lt r n h = omega arith

    even-q : (r p : ℕ) → r % 2 ≡ 0 → (r + 1) / 2 * (p + p) ≡ r * p
    even-q r p e = subst (λ (x : ℕ). (r + 1) / 2 * (p + p) ≡ x * p) (whole r e) (twice ((r + 1) / 2) p)
      where
        whole : (r : ℕ) → r % 2 ≡ 0 → 2 * ((r + 1) / 2) ≡ r
        whole r e = omega arith

        twice : (q p : ℕ) → q * (p + p) ≡ 2 * q * p
        twice q p = omega arith

    odd-q : (r p : ℕ) → r % 2 ≡ 1 → (r + 1) / 2 * (p + p) ≡ r * p + p
    odd-q r p e = subst (λ (x : ℕ). (r + 1) / 2 * (p + p) ≡ x) (whole r p) (twice ((r + 1) / 2) p ∙ ap (λ (x : ℕ). x * p) (up r e))
      where
        up : (r : ℕ) → r % 2 ≡ 1 → 2 * ((r + 1) / 2) ≡ r + 1
        up r e = omega arith

        whole : (r p : ℕ) → (r + 1) * p ≡ r * p + p
        whole r p = omega arith

        twice : (q p : ℕ) → q * (p + p) ≡ 2 * q * p
        twice q p = omega arith

    low_sum : (y w rp : ℕ) → w ≡ rp → y < w → y + w < 2 * rp
    low_sum y w rp e h = omega arith

    odd-sum : (y w rp p : ℕ) → w ≡ rp + p → y + (p + p) ≤ w → y + w ≤ 2 * rp
    odd-sum y w rp p e h = omega arith

    go : (r % 2 ≡ 0) ⊎ (r % 2 ≡ 1) → (y + (r + 1) / 2 * (p + p)) * (y + (r + 1) / 2 * (p + p)) < 4 * (N * (p * p))
    go (inl e) =
        let s : y + (r + 1) / 2 * (p + p) < 2 * r * p = lt_of_lt_of_le (low_sum y ((r + 1) / 2 * (p + p)) (r * p) (even-q r p e) h) (le_of_eq (sym (mul_assoc 2 r p))) in
        lt_of_lt_of_le (sq-lt (y + (r + 1) / 2 * (p + p)) (2 * r * p) s)
        (le_trans (le_of_eq (mul-mul-mul_comm (2 * r) p (2 * r) p)) (le_trans (mul-le-mul_right (p * p) (four r N lo)) (le_of_eq (mul_assoc 4 N (p * p)))))
    go (inr o) =
        let s : y + (r + 1) / 2 * (p + p) ≤ 2 * r * p = le_trans (odd-sum y ((r + 1) / 2 * (p + p)) (r * p) p (odd-q r p o) (gap o)) (le_of_eq (sym (mul_assoc 2 r p))) in
        lt_of_le_of_lt (sq-le (y + (r + 1) / 2 * (p + p)) (2 * r * p) s) (scaled (2 * r) N p (four-lt r N (odd-sq r N lo even o)) P)

-- a larger double y
pub nearer-above : (N r p y : ℕ) → N < (r + 1) * (r + 1) → 0 < p → ((r + 1) / 2 + 1) * (p + p) ≤ y
    → 4 * (N * (p * p)) < (y + (r + 1) / 2 * (p + p)) * (y + (r + 1) / 2 * (p + p))
nearer-above N r p y hi P h =
    lt_of_lt_of_le (scaled-up (2 * (r + 1)) N p (four-lt r N hi) P) (sq-le (2 * (r + 1) * p) (y + (r + 1) / 2 * (p + p)) (sum ((r + 1) / 2) r p y (ge r) h))
  where
    four-lt : (r n : ℕ) → n < (r + 1) * (r + 1) → 4 * n < 2 * (r + 1) * (2 * (r + 1))
    four-lt r n h = omega arith

    ge : (r : ℕ) → r ≤ 2 * ((r + 1) / 2)
    ge r = omega arith

    sum : (q r p y : ℕ) → r ≤ 2 * q → (q + 1) * (p + p) ≤ y → 2 * (r + 1) * p ≤ y + q * (p + p)
    sum q r p y e h = let m : r * p ≤ 2 * q * p = mul-le-mul_right p e in omega arith

-- ---- every double is a * 2 ^ j units with a of 53 digits at most

pub record Held (n : ℕ) : Type 0 where
  pub a : ℕ
  pub j : ℕ
  pub small : a < 2 ^ 53
  pub is : n ≡ a * 2 ^ j

pub held : (y : Float) → T (fits binary64 y) → Held (mag y)
unfolding mag fits
held nan f = record { a = 0; j = 0; small = pow_pos 53; is = refl }
held (inf s) f = record { a = 0; j = 0; small = pow_pos 53; is = refl }
held (fin s zero e) f = record { a = 0; j = 0; small = pow_pos 53; is = none (up e) (down e) }
  where
    none : (u d : ℕ) → 0 * u * 2 ^ 1074 / d ≡ 0
    none u d = ap (λ (x : ℕ). x * 2 ^ 1074 / d) (zero-mul u) ∙ ap (λ (x : ℕ). x / d) (zero-mul (2 ^ 1074)) ∙ zero-div d
held (fin s (suc m) (pos k)) f =
    record {
      a = suc m;
      j = k + 1074;
      small = ltb→lt (suc m) (2 ^ 53) (digits (eqb (suc m % 2) 1) (ltb (suc m) (2 ^ 53)) (leb 1 (2 ^ 1074)) (ltb (suc m * 2 ^ k) (2 ^ 1024 * 1)) f);
      is = div-one (suc m * 2 ^ k * 2 ^ 1074) ∙ mul_assoc (suc m) (2 ^ k) (2 ^ 1074) ∙ ap (λ (x : ℕ). suc m * x) (sym (pow-add 2 k 1074));
    }
  where
    digits : (A B C D : Bool) → T (A && B && C && D) → T B
    digits A B C D t = and_r A B (and_l (A && B) C (and_l (A && B && C) D t))
held (fin s (suc m) (negsuc k)) f =
    let d : 2 ^ suc k ≤ 2 ^ 1074 = leb→le (2 ^ suc k) (2 ^ 1074) (range (eqb (suc m % 2) 1) (ltb (suc m) (2 ^ 53)) (leb (2 ^ suc k) (2 ^ 1074)) (ltb (suc m * 1) (2 ^ 1024 * 2 ^ suc k)) f) in
    let l : suc k ≤ 1074 = le_of_suc-le-suc (pow-back (suc k) 1075 (lt_of_le_of_lt d (pow-lt {i = 1074} {j = 1075} (lit< tt)))) in
    record {
      a = suc m;
      j = 1074 - suc k;
      small = ltb→lt (suc m) (2 ^ 53) (digits (eqb (suc m % 2) 1) (ltb (suc m) (2 ^ 53)) (leb (2 ^ suc k) (2 ^ 1074)) (ltb (suc m * 1) (2 ^ 1024 * 2 ^ suc k)) f);
      is =
          ap (λ (x : ℕ). x * 2 ^ 1074 / 2 ^ suc k) (mul-one (suc m))
          ∙ ap (λ (x : ℕ). suc m * x / 2 ^ suc k) (ap (λ (x : ℕ). 2 ^ x) (sym (back 1074 (suc k) l)) ∙ pow-add 2 (1074 - suc k) (suc k))
          ∙ ap (λ (x : ℕ). x / 2 ^ suc k) (sym (mul_assoc (suc m) (2 ^ (1074 - suc k)) (2 ^ suc k)))
          ∙ mul-div_cancel (suc m * 2 ^ (1074 - suc k)) (pow_pos (suc k));
    }
  where
    digits : (A B C D : Bool) → T (A && B && C && D) → T B
    digits A B C D t = and_r A B (and_l (A && B) C (and_l (A && B && C) D t))

    range : (A B C D : Bool) → T (A && B && C && D) → T C
    range A B C D t = and_r (A && B) C (and_l (A && B && C) D t)

    back : (j g : ℕ) → g ≤ j → j - g + g ≡ j
    back j g h = omega arith
