-- A bound on the size of a double: `AtMost B x` says that x is finite and at most B in size. It is what `within` tests, and it holds of a product. Assumes nothing.
use mathlib.Core.Path.{◌≡◌, refl, sym, ap, ◌∙◌, subst}
use mathlib.Core.Logic.{◌⊎◌, inl, inr}
use mathlib.Core.Bool.{Bool, true, false, ◌&&◌, ◌||◌, true≢false}
use Prim.Native.Nat.{ℕ, zero, suc, ◌+◌, ◌*◌, ◌^◌, ◌≤◌, ◌<◌, zero-le}
use native.Mathlib.Nat.{le_trans, le_of_eq, le_of_lt, lt_of_le_of_lt, mul-one, zero-mul, mul_right_comm, mul-mul-mul_comm, mul-le-mul, mul-le-mul_right, eq-or-lt_of_le, le_of_mul-le-mul_right, mul-pos, mul-lt-mul_of_pos_right}
use native.Mathlib.Omega.{arith}
use lib.IntN.{ℤ}
use lib.Dec.{T, ltb, eqb, ltb→lt, lt→ltb, eqb→eq, eqb_refl, lit≤, lit<}
use lib.Ieee.{Float, nan, inf, fin, binary64, up, down, unlike, round, mul, neg, le, of_bits, of_int}
use lib.Ieee.Fits.{down_pos, and_i, and_l, and_r}
use lib.Ieee.Exact.{HasValue}
use lib.Ieee.Order.{round_mono}
use lib.Ieee.Back.{round_whole}
use Rattle.numbers.specs.Double.{◌⊗◌, 0·5}
use Rattle.half_turn.specs.HalfTurn.{small, K, turn_limit, of_nat, within, in_range}
use Rattle.half_turn.proofs.Rounding.{neg-round}

abbrev pub AtMost : ℕ → Float → Type 0
AtMost B nan = ⊥
AtMost B (inf s) = ⊥
AtMost B (fin s m e) = m * up e ≤ B * down e

-- what `le` of two finite doubles says of their sizes: below, or equal by a test `e`, made in either order
at_most : (a b : ℕ) (e t : Bool) → (T e → a ≡ b) → T (ltb a b || (e && t)) → a ≤ b
at_most a b e t f h = go (ltb a b) (ltb→lt a b) h
  where
    go : (p : Bool) → (T p → a < b) → T (p || (e && t)) → a ≤ b
    go true g h = le_of_lt (g tt)
    go false g h = le_of_eq (f (and_l e t h))

lt-or-eq : (a b : ℕ) (t : Bool) → T (ltb a b || (eqb a b && t)) → a ≤ b
lt-or-eq a b t h = at_most a b (eqb a b) t (eqb→eq a b) h

gt-or-eq : (a b : ℕ) (t : Bool) → T (ltb b a || (eqb a b && t)) → b ≤ a
gt-or-eq a b t h = at_most b a (eqb a b) t (λ (e : T (eqb a b)). sym (eqb→eq a b e)) h

-- m / u ≤ n / d and n / d = B
through : (m u n d B : ℕ) → 0 < d → m * d ≤ n * u → n * 1 ≡ B * d → m ≤ B * u
through m u n d B D h e = le_of_mul-le-mul_right (le_trans h (le_of_eq (ap (λ (x : ℕ). x * u) (sym (mul-one n) ∙ e) ∙ mul_right_comm B d u))) D

back : (m u n d B : ℕ) → m ≤ B * u → n * 1 ≡ B * d → m * d ≤ n * u
back m u n d B h e = le_trans (mul-le-mul_right d h) (le_of_eq (mul_right_comm B u d ∙ ap (λ (x : ℕ). x * u) (sym e ∙ mul-one n)))

-- a value that is not negative is `fin false n d`
shape : (x : Float) (B : ℕ) → HasValue x false B 1 → (n : ℕ) × (d : ℤ) × (x ≡ fin false n d) × (n * up d * 1 ≡ B * down d)
shape nan B v = absurd v
shape (inf s) B v = absurd v
shape (fin true n d) B v = absurd (true≢false v.0)
shape (fin false n d) B v = (n, d, refl, v.1)

-- between 0 and B
between : (B : ℕ) (R : Float) (q : ℕ) (f : ℤ) (n : ℕ) (d : ℤ) → T (le R (fin false n d)) → T (le (fin false q f) R) → n * up d * 1 ≡ B * down d → q * up f * 1 ≡ 0 * down f → AtMost B R
unfolding le
between B nan q f n d h k v z = absurd h
between B (inf false) q f n d h k v z = absurd h
between B (inf true) q f n d h k v z = absurd k
between B (fin false m e) q f n d h k v z =
    through (m * up e) (down e) (n * up d) (down d) B (down_pos d) (lt-or-eq (m * up e * down d) (n * up d * down e) true h) v
between B (fin true m e) q f n d h k v z =
    let a : q * up f * down e ≡ m * up e * down f = eqb→eq (q * up f * down e) (m * up e * down f) (and_l (eqb (q * up f * down e) (m * up e * down f)) (false || eqb (q * up f * down e) 0) k) in
    let b : q * up f ≡ 0 = sym (mul-one (q * up f)) ∙ z ∙ zero-mul (down f) in
    le_trans (le_of_mul-le-mul_right {n = 0} (le_trans (le_of_eq (sym a ∙ ap (λ (x : ℕ). x * down e) b ∙ zero-mul (down e))) zero-le) (down_pos f)) zero-le

neg-at-most : (B : ℕ) (x : Float) → AtMost B x → AtMost B (neg x)
unfolding neg
neg-at-most B nan h = absurd h
neg-at-most B (inf s) h = absurd h
neg-at-most B (fin s m e) h = h

plus-at-most : (a c B : ℕ) → 0 < c → a ≤ B * c → B ≤ 2 ^ 53 → AtMost B (round binary64 false a c)
plus-at-most a c B C h b =
    let R = round binary64 false a c in
    let w = shape (round binary64 false B 1) B (round_whole binary64 false B b) in
    let z = shape (round binary64 false 0 1) 0 (round_whole binary64 false 0 zero-le) in
    between B R z.0 z.1 w.0 w.1
    (subst (λ (y : Float). T (le R y)) w.2 (round_mono binary64 a c B 1 C (lit< tt) (le_trans (le_of_eq (mul-one a)) h)))
    (subst (λ (y : Float). T (le y R)) z.2 (round_mono binary64 0 1 a c (lit< tt) C (le_trans (le_of_eq (zero-mul c)) zero-le)))
    w.3
    z.3

pub round-at-most : (s : Bool) (a c B : ℕ) → 0 < c → a ≤ B * c → B ≤ 2 ^ 53 → AtMost B (round binary64 s a c)
round-at-most false a c B C h b = plus-at-most a c B C h b
round-at-most true a c B C h b = subst (AtMost B) (neg-round a c) (neg-at-most B (round binary64 false a c) (plus-at-most a c B C h b))

pub mul-at-most : (A B : ℕ) (x y : Float) → AtMost A x → AtMost B y → A * B ≤ 2 ^ 53 → AtMost (A * B) (mul binary64 x y)
unfolding mul
mul-at-most A B nan y h k b = absurd h
mul-at-most A B (inf s) y h k b = absurd h
mul-at-most A B (fin s m e) nan h k b = absurd k
mul-at-most A B (fin s m e) (inf t) h k b = absurd k
mul-at-most A B (fin s m e) (fin t n d) h k b =
    round-at-most (unlike s t) (m * up e * (n * up d)) (down e * down d) (A * B) (mul-pos (down_pos e) (down_pos d))
    (le_trans (mul-le-mul h k) (le_of_eq (mul-mul-mul_comm A (down e) B (down d)))) b

-- ---- the range of the angle

-- `within` over a whole number is a bound on the size
bounded : (B : ℕ) (n : ℕ) (d : ℤ) (q : Float) → n * up d * 1 ≡ B * down d → T (le q (fin false n d)) → T (le (fin true n d) q) → AtMost B q
unfolding le
bounded B n d nan v h k = absurd h
bounded B n d (inf true) v h k = absurd k
bounded B n d (inf false) v h k = absurd h
bounded B n d (fin false m e) v h k = through (m * up e) (down e) (n * up d) (down d) B (down_pos d) (lt-or-eq (m * up e * down d) (n * up d * down e) true h) v
bounded B n d (fin true m e) v h k = through (m * up e) (down e) (n * up d) (down d) B (down_pos d) (gt-or-eq (n * up d * down e) (m * up e * down d) true k) v

pub within-at-most : (B : ℕ) (q : Float) → B ≤ 2 ^ 53 → T (within (of_nat B) q) → AtMost B q
unfolding of_int neg
within-at-most B q b h =
    let w = shape (of_nat B) B (round_whole binary64 false B b) in
    let g : T (within (fin false w.0 w.1) q) = subst (λ (x : Float). T (within x q)) w.2 h in
    bounded B w.0 w.1 q w.3 (and_l (le q (fin false w.0 w.1)) (le (fin true w.0 w.1) q) g) (and_r (le q (fin false w.0 w.1)) (le (fin true w.0 w.1) q) g)

-- and a number of that size is within it
or_l : (p q : Bool) → T p → T (p || q)
or_l true q h = tt
or_l false q h = absurd h

either : (p q : Bool) → T p ⊎ T q → T (p || (q && true))
either true q h = tt
either false true h = tt
either false false (inl h) = h
either false false (inr h) = h

le-or-eq : (a b : ℕ) → a ≤ b → T (ltb a b || (eqb a b && true)) × T (ltb a b || (eqb b a && true))
le-or-eq a b h = go (eq-or-lt_of_le h)
  where
    go : (a ≡ b) ⊎ (a < b) → T (ltb a b || (eqb a b && true)) × T (ltb a b || (eqb b a && true))
    go (inl e) = (
      either (ltb a b) (eqb a b) (inr (subst (λ (x : ℕ). T (eqb a x)) e (eqb_refl a))),
      either (ltb a b) (eqb b a) (inr (subst (λ (x : ℕ). T (eqb x a)) e (eqb_refl a))),
    )
    go (inr l) = (either (ltb a b) (eqb a b) (inl (lt→ltb a b l)), either (ltb a b) (eqb b a) (inl (lt→ltb a b l)))

minus-le-plus : (a b : ℕ) → T (ltb 0 (a + b) || (eqb a b && (false || eqb a 0)))
minus-le-plus zero zero = tt
minus-le-plus zero (suc b) = or_l (ltb 0 (0 + suc b)) (eqb 0 (suc b) && (false || eqb 0 0)) (lt→ltb 0 (0 + suc b) (omega arith))
minus-le-plus (suc a) b = or_l (ltb 0 (suc a + b)) (eqb (suc a) b && (false || eqb (suc a) 0)) (lt→ltb 0 (suc a + b) (omega arith))

inside : (B : ℕ) (n : ℕ) (d : ℤ) (q : Float) → n * up d * 1 ≡ B * down d → AtMost B q → T (le q (fin false n d)) × T (le (fin true n d) q)
unfolding le
inside B n d nan v h = absurd h
inside B n d (inf s) v h = absurd h
inside B n d (fin false m e) v h = ((le-or-eq (m * up e * down d) (n * up d * down e) (back (m * up e) (down e) (n * up d) (down d) B h v)).0, minus-le-plus (n * up d * down e) (m * up e * down d))
inside B n d (fin true m e) v h = (minus-le-plus (m * up e * down d) (n * up d * down e), (le-or-eq (m * up e * down d) (n * up d * down e) (back (m * up e) (down e) (n * up d) (down d) B h v)).1)

pub at-most-within : (B : ℕ) (q : Float) → B ≤ 2 ^ 53 → AtMost B q → T (within (of_nat B) q)
unfolding of_int neg
at-most-within B q b h =
    let w = shape (of_nat B) B (round_whole binary64 false B b) in
    let i = inside B w.0 w.1 q w.3 h in
    subst (λ (x : Float). T (within x q)) (sym w.2) (and_i (le q (fin false w.0 w.1)) (le (fin true w.0 w.1) q) i.0 i.1)

half : AtMost 1 0·5
unfolding of_bits
half = lit≤ tt

two-over-pi : AtMost 1 K
unfolding of_bits
two-over-pi = lit≤ tt

small_of : (B : ℕ) (x : Float) → B < 2147483648 → AtMost B x → T (small x)
small_of B nan l h = absurd h
small_of B (inf s) l h = absurd h
small_of B (fin s m e) l h = lt→ltb (m * up e) (2147483648 * down e) (lt_of_le_of_lt h (mul-lt-mul_of_pos_right l (down_pos e)))

-- what `nearest` asks at its call
pub quarters-small : (q : Float) → T (in_range q) → T (small (q ⊗ 0·5 ⊗ K))
quarters-small q h =
    small_of turn_limit (q ⊗ 0·5 ⊗ K) (lit< tt)
    (mul-at-most turn_limit 1 (q ⊗ 0·5) K (mul-at-most turn_limit 1 q 0·5 (within-at-most turn_limit q (lit≤ tt) h) half (lit≤ tt)) two-over-pi (lit≤ tt))
