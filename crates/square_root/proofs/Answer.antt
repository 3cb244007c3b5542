-- `root_of` gives the answer that `RootIs` asks for, and only that one. Assumes nothing.
use mathlib.Core.Path.{◌≡◌, refl, sym, ap, ◌∙◌, subst}
use mathlib.Core.Logic.{◌⊎◌, inl, inr}
use mathlib.Core.Bool.{Bool, true, false, not, cond, ◌&&◌, ◌||◌, beq, true≢false}
use Prim.Native.Nat.{ℕ, zero, suc, ◌+◌, ◌-◌, ◌*◌, ◌/◌, ◌%◌, ◌^◌, ◌≤◌, ◌<◌}
use native.Mathlib.Nat.{lt_of_lt_of_le, le_of_lt, mul_assoc, mul-pos, two-pow-succ, eq-or-lt_of_le, lt_irrefl, zero-mul, le_antisymm, mod-lt, zero-lt-suc, mul-one}
use native.Mathlib.Omega.{arith}
use lib.IntN.{ℤ, pos}
use lib.Dec.{T, ltb, eqb, ltb→lt, lt→ltb, nltb→le, eqb→eq, lit<, not_T}
use lib.Pow.{pow-add, pow_pos}
use lib.Count.{count_leading_zeros}
use lib.Ieee.{Float, nan, inf, fin, binary64, up, down, fits, is_nan, nan_bits, to_bits, of_bits, size, eq, lt}
use lib.Ieee.Fits.{and_i, and_l, and_r, up_pos, eq→eqb}
use lib.Ieee.Bits.{of_bits-to_bits, of_bits-fits, is_false, is_true}
use lib.Ieee.Positive.{positive, positive_of_value}
use Rattle.std.specs.Prelude.{Option, Some, None}
use Rattle.square_root.specs.SquareRoot.{mag, Nearest, RootIs, isqrt, pattern_of, root_of, sig_of, exp_of}
use Rattle.square_root.proofs.Whole.{lead, eleven, shift, half, sig-lt, sig-pos, shifted, N-lo, N-hi, total, root-small, root-le, isqrt-is, four_is, pattern-at}
use Rattle.square_root.proofs.Values.{value, mag-bits, minus, bits-le}
use Rattle.square_root.proofs.NotNan.{number}
use Rattle.square_root.proofs.Near.{gap-above, gap_below, nearer-below, nearer-above, held}

-- ---- the numbers of one root

pub record Parts (X : ℕ) : Type 0 where
  pub N : ℕ
  pub h : ℕ
  pub r : ℕ
  pub is : X ≡ N * (2 ^ h * 2 ^ h)
  pub even : N % 2 ≡ 0
  pub lo : r * r ≤ N
  pub hi : N < (r + 1) * (r + 1)
  pub r-lo : 9007199254740992 ≤ r
  pub r-hi : r < 18014398509481984
  pub h-hi : h ≤ 1532
  pub pattern : pattern_of X ≡ (h + 1) * 4503599627370496 + (r + 1) / 2

square : (h : ℕ) → 4 ^ h ≡ 2 ^ h * 2 ^ h
square h = four_is h ∙ ap (λ (x : ℕ). 2 ^ x) (two h) ∙ pow-add 2 h h
  where
    two : (h : ℕ) → 2 * h ≡ h + h
    two h = omega arith

pub parts : (b : ℕ) → 0 < b → b < 9218868437227405312 → Parts (sig_of b * 2 ^ (exp_of b + 1074))
parts b p k =
    let c = sig_of b in
    let e = exp_of b in
    let z = count_leading_zeros 64 c in
    let l = lead c (sig-pos b p) (sig-lt b) in
    let zs = eleven c z (sig-lt b) l in
    let s = shift z e in
    let w = c * 2 ^ s in
    let n = w * 17592186044416 in
    let fit : w < 18446744073709551616 = subst (λ (x : ℕ). x < 18446744073709551616) (shifted c z e (sig-lt b) l) (mod-lt w (pow_pos 64)) in
    let t = half e s in
    let x = total c z e zs.1 zs.0 in
    let q = isqrt-is 54 n (N-hi w fit) in
    record {
      N = n;
      h = t;
      r = isqrt 54 n;
      is = x ∙ ap (λ (y : ℕ). n * y) (square t);
      even = even-n w;
      lo = q.0;
      hi = q.1;
      r-lo = root-le 9007199254740992 (isqrt 54 n) n (N-lo c z e (sig-lt b) l) q.1;
      r-hi = root-small (isqrt 54 n) w fit q.0;
      h-hi = small b z k zs.0;
      pattern = pattern-at (c * 2 ^ (e + 1074)) n t (isqrt 54 n) x (N-lo c z e (sig-lt b) l) (N-hi w fit) q.0 q.1;
    }
  where
    even-n : (w : ℕ) → w * 17592186044416 % 2 ≡ 0
    even-n w = omega arith

    small : (b z : ℕ) → b < 9218868437227405312 → 11 ≤ z → half (exp_of b) (shift z (exp_of b)) ≤ 1532
    small b z h k = omega arith

-- ---- the pattern's double

pattern_lt : (h q : ℕ) → h ≤ 1532 → q ≤ 9007199254740992 → (h + 1) * 4503599627370496 + q < 9218868437227405312
pattern_lt h q a b = omega arith

q-lo : (r : ℕ) → 9007199254740992 ≤ r → 4503599627370496 ≤ (r + 1) / 2
q-lo r h = omega arith

q-lo-odd : (r : ℕ) → 9007199254740992 ≤ r → r % 2 ≡ 1 → 4503599627370496 < (r + 1) / 2
q-lo-odd r h o = omega arith

q-hi : (r : ℕ) → r < 18014398509481984 → (r + 1) / 2 ≤ 9007199254740992
q-hi r h = omega arith

abbrev pat : ℕ → ℕ → ℕ
pat h q = (h + 1) * 4503599627370496 + q

-- its digits and its exponent
units : (h q : ℕ) → 4503599627370496 ≤ q → q ≤ 9007199254740992
    → sig_of ((h + 1) * 4503599627370496 + q) * 2 ^ exp_of ((h + 1) * 4503599627370496 + q) ≡ q * 2 ^ suc h
units h q lo hi = go (eq-or-lt_of_le hi)
  where
    big : (h q : ℕ) → ((h + 1) * 4503599627370496 + q < 4503599627370496) → ⊥
    big h q l = omega arith

    sig : sig_of (pat h q) ≡ 4503599627370496 + pat h q % 4503599627370496
    sig = ap (λ (t : Bool). cond t (pat h q) (4503599627370496 + pat h q % 4503599627370496)) (is_false (ltb (pat h q) 4503599627370496) (not_T (ltb (pat h q) 4503599627370496) (λ (u : T (ltb (pat h q) 4503599627370496)). big h q (ltb→lt (pat h q) 4503599627370496 u))))

    rest : (h q : ℕ) → 4503599627370496 ≤ q → q < 9007199254740992 → 4503599627370496 + ((h + 1) * 4503599627370496 + q) % 4503599627370496 ≡ q
    rest h q a b = omega arith

    exp : (h q : ℕ) → 4503599627370496 ≤ q → q < 9007199254740992 → ((h + 1) * 4503599627370496 + q) / 4503599627370496 - 1 ≡ suc h
    exp h q a b = omega arith

    rest-top : (h q : ℕ) → q ≡ 9007199254740992 → 4503599627370496 + ((h + 1) * 4503599627370496 + q) % 4503599627370496 ≡ 4503599627370496
    rest-top h q e = omega arith

    exp-top : (h q : ℕ) → q ≡ 9007199254740992 → ((h + 1) * 4503599627370496 + q) / 4503599627370496 - 1 ≡ suc (suc h)
    exp-top h q e = omega arith

    carry : (n : ℕ) → 4503599627370496 * (n + n) ≡ 9007199254740992 * n
    carry n = omega arith

    go : (q ≡ 9007199254740992) ⊎ (q < 9007199254740992) → sig_of (pat h q) * 2 ^ exp_of (pat h q) ≡ q * 2 ^ suc h
    go (inl e) =
        ap (λ (x : ℕ). x * 2 ^ exp_of (pat h q)) (sig ∙ rest-top h q e)
        ∙ ap (λ (x : ℕ). 4503599627370496 * 2 ^ x) (exp-top h q e)
        ∙ ap (λ (x : ℕ). 4503599627370496 * x) (two-pow-succ (suc h))
        ∙ carry (2 ^ suc h)
        ∙ ap (λ (x : ℕ). x * 2 ^ suc h) (sym e)
    go (inr l) = ap (λ (x : ℕ). x * 2 ^ exp_of (pat h q)) (sig ∙ rest h q lo l) ∙ ap (λ (x : ℕ). q * 2 ^ x) (exp h q lo l)

-- ---- it is nearest

pub nearest : (x : Float) (X : ℕ) → mag x * 2 ^ 1074 ≡ X → Parts X → Nearest x (of_bits binary64 (pattern_of X))
nearest x X e P =
    let q = (P.r + 1) / 2 in
    let p = (P.h + 1) * 4503599627370496 + q in
    let lo = q-lo P.r P.r-lo in
    let hi = q-hi P.r P.r-hi in
    let lt = pattern_lt P.h q P.h-hi hi in
    let R = of_bits binary64 p in
    let u : sig_of p * 2 ^ exp_of p ≡ q * 2 ^ suc P.h = units P.h q lo hi in
    let at : mag R ≡ q * (2 ^ P.h + 2 ^ P.h) = mag-bits p lt ∙ u ∙ ap (λ (y : ℕ). q * y) (two-pow-succ P.h) in
    let w : P.N * (2 ^ P.h * 2 ^ P.h) ≡ mag x * 2 ^ 1074 = sym P.is ∙ sym e in
    let above_zero : 0 < sig_of p * 2 ^ exp_of p = subst (λ (y : ℕ). 0 < y) (sym u) (mul-pos (lt_of_lt_of_le (lit< tt) lo) (pow_pos (suc P.h))) in
    subst (λ (y : ℕ). Nearest x (of_bits binary64 y)) (sym P.pattern)
    (record {
      held = and_i (fits binary64 R) (positive R) (of_bits-fits binary64 p) (positive_of_value R (sig_of p * 2 ^ exp_of p) (2 ^ 1074) (value p lt) above_zero);
      below = λ y f l.
          let d = held y f in
          let l' : mag y < q * (2 ^ P.h + 2 ^ P.h) = subst (λ (z : ℕ). mag y < z) at l in
          subst (λ (z : ℕ). (mag y + mag R) * (mag y + mag R) < 4 * z) w
          (subst (λ (z : ℕ). (mag y + z) * (mag y + z) < 4 * (P.N * (2 ^ P.h * 2 ^ P.h))) (sym at)
          (nearer-below P.N P.r (2 ^ P.h) (mag y) P.lo P.even (pow_pos P.h) l'
          (λ o.
          subst (λ (z : ℕ). mag y + z ≤ q * z) (two-pow-succ P.h)
          (subst (λ (z : ℕ). z + 2 ^ suc P.h ≤ q * 2 ^ suc P.h) (sym d.is)
          (gap_below d.a d.j q (suc P.h) d.small (q-lo-odd P.r P.r-lo o)
          (subst (λ (z : ℕ). z < q * 2 ^ suc P.h) d.is (subst (λ (z : ℕ). mag y < q * z) (sym (two-pow-succ P.h)) l')))))));
      above = λ y f l.
          let d = held y f in
          let l' : q * (2 ^ P.h + 2 ^ P.h) < mag y = subst (λ (z : ℕ). z < mag y) at l in
          subst (λ (z : ℕ). 4 * z < (mag y + mag R) * (mag y + mag R)) w
          (subst (λ (z : ℕ). 4 * (P.N * (2 ^ P.h * 2 ^ P.h)) < (mag y + z) * (mag y + z)) (sym at)
          (nearer-above P.N P.r (2 ^ P.h) (mag y) P.hi (pow_pos P.h)
          (subst (λ (z : ℕ). (q + 1) * z ≤ mag y) (two-pow-succ P.h)
          (subst (λ (z : ℕ). (q + 1) * 2 ^ suc P.h ≤ z) (sym d.is)
          (gap-above d.a d.j q (suc P.h) d.small lo
          (subst (λ (z : ℕ). q * 2 ^ suc P.h < z) d.is (subst (λ (z : ℕ). q * z < mag y) (sym (two-pow-succ P.h)) l')))))));
    })

-- ---- a double above zero, by its pattern

positive-not-minus : (x : Float) → T (positive x) → T (not (minus x))
positive-not-minus nan h = absurd h
positive-not-minus (inf s) h = absurd h
positive-not-minus (fin true m e) h = absurd h
positive-not-minus (fin false m e) h = tt

pub inf-is : of_bits binary64 9218868437227405312 ≡ inf false
unfolding of_bits
inf-is = refl

pub zero_is : of_bits binary64 0 ≡ fin false 0 (pos 0)
unfolding of_bits
zero_is = refl

pub bits_of : (x : Float) → T (fits binary64 x) → T (positive x) → (0 < to_bits binary64 x) × (to_bits binary64 x < 9218868437227405312)
bits_of x f h =
    let b = to_bits binary64 x in
    let e : of_bits binary64 b ≡ x = of_bits-to_bits binary64 x f in
    let no_zero : b ≡ 0 → ⊥ = λ z. subst (λ (y : Float). T (positive y)) (sym e ∙ ap (of_bits binary64) z ∙ zero_is) h in
    let no-inf : b ≡ 9218868437227405312 → ⊥ = λ z. subst (λ (y : Float). T (positive y)) (sym e ∙ ap (of_bits binary64) z ∙ inf-is) h in
    between b no_zero no-inf (bits-le x f (positive-not-minus x h))
  where
    between : (b : ℕ) → (b ≡ 0 → ⊥) → (b ≡ 9218868437227405312 → ⊥) → b ≤ 9218868437227405312 → (0 < b) × (b < 9218868437227405312)
    between b p q h = omega arith

-- mag x * 2 ^ 1074, as the code has it
pub X-is : (x : Float) → T (fits binary64 x) → T (positive x) → mag x * 2 ^ 1074 ≡ sig_of (to_bits binary64 x) * 2 ^ (exp_of (to_bits binary64 x) + 1074)
X-is x f h =
    let b = to_bits binary64 x in
    ap (λ (y : ℕ). y * 2 ^ 1074) (ap mag (sym (of_bits-to_bits binary64 x f)) ∙ mag-bits b (bits_of x f h).1)
    ∙ mul_assoc (sig_of b) (2 ^ exp_of b) (2 ^ 1074)
    ∙ ap (λ (y : ℕ). sig_of b * y) (sym (pow-add 2 (exp_of b) 1074))

pub parts-of : (x : Float) → T (fits binary64 x) → T (positive x) → Parts (mag x * 2 ^ 1074)
parts-of x f h = subst Parts (sym (X-is x f h)) (parts (to_bits binary64 x) (bits_of x f h).0 (bits_of x f h).1)

-- the pattern written is no NaN's
pub written : (X : ℕ) → Parts X → T (not (nan_bits binary64 (pattern_of X)))
written X P =
    let q = (P.r + 1) / 2 in
    let p = (P.h + 1) * 4503599627370496 + q in
    let l : p < 9218868437227405312 = pattern_lt P.h q P.h-hi (q-hi P.r P.r-hi) in
    subst (λ (y : ℕ). T (not (nan_bits binary64 y))) (sym P.pattern) (number p (le_of_lt l))

-- ---- the answer

pub root-above : (x : Float) → T (positive x) → root_of x ≡ Some (of_bits binary64 (pattern_of (mag x * 2 ^ 1074)))
unfolding root_of
root-above nan h = absurd h
root-above (inf s) h = absurd h
root-above (fin true m e) h = absurd h
root-above (fin false zero e) h = absurd h
root-above (fin false (suc m) e) h = refl

-- what is worked out is what is asked for
pub root_is : (x : Float) → T (fits binary64 x) → RootIs x (root_of x)
unfolding RootIs root_of
root_is nan f = refl
root_is (inf true) f = refl
root_is (inf false) f = refl
root_is (fin s zero e) f = refl
root_is (fin true (suc m) e) f = refl
root_is (fin false (suc m) e) f =
    let x = fin false (suc m) e in
    (of_bits binary64 (pattern_of (mag x * 2 ^ 1074)), refl, nearest x (mag x * 2 ^ 1074) refl (parts-of x f (lt→ltb 0 (suc m) (zero-lt-suc m))))

-- ---- the code's tests

pub nan-case : (x : Float) → is_nan x ≡ true → root_of x ≡ None
unfolding is_nan root_of
nan-case nan h = refl
nan-case (inf s) h = cc
nan-case (fin s m e) h = cc

not-a-zero : (m : ℕ) (e : ℤ) (y : ℕ) → y ≡ 0 → T (eqb (suc m * up e * 1) y) → ⊥
not-a-zero m e y z t =
    lt_irrefl 0 (subst (λ (n : ℕ). 0 < n) (sym (mul-one (suc m * up e)) ∙ eqb→eq (suc m * up e * 1) y t ∙ z) (mul-pos (zero-lt-suc m) (up_pos e)))

pub zero-case : (x : Float) → eq x (of_bits binary64 0) ≡ true → root_of x ≡ Some x
unfolding eq root_of
zero-case x h = go x (subst (λ (z : Float). T (eq x z)) zero_is (subst T (sym h) tt))
  where
    go : (x : Float) → T (eq x (fin false 0 (pos 0))) → root_of x ≡ Some x
    go nan t = absurd t
    go (inf s) t = absurd t
    go (fin s zero e) t = refl
    go (fin s (suc m) e) t = absurd (not-a-zero m e (0 * 1 * down e) (zero-mul (down e)) (and_l (eqb (suc m * up e * 1) (0 * 1 * down e)) (beq s false || eqb (suc m * up e * 1) 0) t))

none_below : (a b : ℕ) → b ≡ 0 → T (ltb a b) → ⊥
none_below a b z t = let l = ltb→lt a b t in omega arith

pub minus-case : (x : Float) → lt x (of_bits binary64 0) ≡ true → root_of x ≡ None
unfolding lt root_of
minus-case x h = go x (subst (λ (z : Float). T (lt x z)) zero_is (subst T (sym h) tt))
  where
    go : (x : Float) → T (lt x (fin false 0 (pos 0))) → root_of x ≡ None
    go nan t = absurd t
    go (inf true) t = refl
    go (inf false) t = absurd t
    go (fin true zero e) t = absurd (none_below 0 (0 * up e * 1 + 0 * 1 * down e) (ap (λ (n : ℕ). n * 1 + 0 * 1 * down e) (zero-mul (up e)) ∙ ap (λ (n : ℕ). 0 * 1 + n) (zero-mul (down e))) t)
    go (fin true (suc m) e) t = refl
    go (fin false m e) t = absurd (none_below (m * up e * 1) (0 * 1 * down e) (zero-mul (down e)) t)

-- what is left is the infinity, or above zero
pub left_over : (x : Float) → is_nan x ≡ false → eq x (of_bits binary64 0) ≡ false → lt x (of_bits binary64 0) ≡ false → (x ≡ inf false) ⊎ T (positive x)
unfolding is_nan eq lt
left_over x a b c = go x a (subst (λ (z : Float). eq x z ≡ false) zero_is b) (subst (λ (z : Float). lt x z ≡ false) zero_is c)
  where
    zero-eq : (s : Bool) (e : ℤ) → eq (fin s 0 e) (fin false 0 (pos 0)) ≡ true
    zero-eq s e = all (eqb (0 * up e * 1) (0 * 1 * down e)) (beq s false) (eqb (0 * up e * 1) 0) (eq→eqb (zeros ∙ sym (zero-mul (down e)))) (eq→eqb zeros)
      where
        zeros : 0 * up e * 1 ≡ 0
        zeros = ap (λ (n : ℕ). n * 1) (zero-mul (up e))

        all : (p q r : Bool) → T p → T r → (p && (q || r)) ≡ true
        all true true r t u = refl
        all true false true t u = refl
        all true false false t u = absurd u
        all false q r t u = absurd t

    below-zero : (m : ℕ) (e : ℤ) → lt (fin true (suc m) e) (fin false 0 (pos 0)) ≡ true
    below-zero m e = is_true (ltb 0 (suc m * up e * 1 + 0 * 1 * down e)) (lt→ltb 0 (suc m * up e * 1 + 0 * 1 * down e) (grow (suc m * up e) (0 * 1 * down e) (mul-pos (zero-lt-suc m) (up_pos e))))
      where
        grow : (a b : ℕ) → 0 < a → 0 < a * 1 + b
        grow a b h = omega arith

    minus-inf : lt (inf true) (fin false 0 (pos 0)) ≡ true
    minus-inf = refl

    go : (x : Float) → is_nan x ≡ false → eq x (fin false 0 (pos 0)) ≡ false → lt x (fin false 0 (pos 0)) ≡ false → (x ≡ inf false) ⊎ T (positive x)
    go nan a b c = absurd (true≢false a)
    go (inf true) a b c = absurd (true≢false (sym minus-inf ∙ c))
    go (inf false) a b c = inl refl
    go (fin s zero e) a b c = absurd (true≢false (sym (zero-eq s e) ∙ b))
    go (fin true (suc m) e) a b c = absurd (true≢false (sym (below-zero m e) ∙ c))
    go (fin false (suc m) e) a b c = inr (lt→ltb 0 (suc m) (zero-lt-suc m))

-- ---- there is one answer

same-mag : (x y : Float) → T (fits binary64 x && positive x) → T (fits binary64 y && positive y) → mag x ≡ mag y → x ≡ y
unfolding to_bits mag
same-mag x y p q e =
    sym (of_bits-to_bits binary64 x (and_l (fits binary64 x) (positive x) p))
    ∙ ap (of_bits binary64) (bits x (and_r (fits binary64 x) (positive x) p) ∙ ap written_as e ∙ sym (bits y (and_r (fits binary64 y) (positive y) q)))
    ∙ of_bits-to_bits binary64 y (and_l (fits binary64 y) (positive y) q)
  where
    written_as : ℕ → ℕ
    written_as n = 0 + (size n - 53) * 4503599627370496 + n / 2 ^ (size n - 53)

    bits : (x : Float) → T (positive x) → to_bits binary64 x ≡ written_as (mag x)
    bits nan h = absurd h
    bits (inf s) h = absurd h
    bits (fin true m e) h = absurd h
    bits (fin false m e) h = refl

pub one-nearest : (x r s : Float) → Nearest x r → Nearest x s → r ≡ s
one-nearest x r s a b = same-mag r s a.held b.held (level (ltb (mag r) (mag s)) (ltb (mag s) (mag r)) (ltb→lt (mag r) (mag s)) (nltb→le (mag r) (mag s)) (ltb→lt (mag s) (mag r)) (nltb→le (mag s) (mag r)))
  where
    clash : (u v w X : ℕ) → (u + v) * (u + v) < X → X < (v + u) * (v + u) → ⊥
    clash u v w X h k = omega arith

    level : (p q : Bool) → (T p → mag r < mag s) → (T (not p) → mag s ≤ mag r) → (T q → mag s < mag r) → (T (not q) → mag r ≤ mag s) → mag r ≡ mag s
    level true q f g h k = absurd (clash (mag r) (mag s) 0 (4 * (mag x * 2 ^ 1074)) (b.below r (and_l (fits binary64 r) (positive r) a.held) (f tt)) (a.above s (and_l (fits binary64 s) (positive s) b.held) (f tt)))
    level false true f g h k = absurd (clash (mag s) (mag r) 0 (4 * (mag x * 2 ^ 1074)) (a.below s (and_l (fits binary64 s) (positive s) b.held) (h tt)) (b.above r (and_l (fits binary64 r) (positive r) a.held) (h tt)))
    level false false f g h k = le_antisymm (k tt) (g tt)

-- any answer that `RootIs` allows is `root_of`'s
pub one_answer : (x : Float) (a : Option Float) → T (fits binary64 x) → RootIs x a → a ≡ root_of x
unfolding RootIs root_of
one_answer nan a f h = h
one_answer (inf true) a f h = h
one_answer (inf false) a f h = h
one_answer (fin s zero e) a f h = h
one_answer (fin true (suc m) e) a f h = h
one_answer (fin false (suc m) e) a f h =
    let x = fin false (suc m) e in
    let k = root_is x f in
    h.1 ∙ ap Some (one-nearest x h.0 k.0 h.2 k.2) ∙ sym k.1
