-- Rounding a fraction to the nearest whole number: `closest` of lib.Ieee.Nearest. Assumes nothing.
use mathlib.Core.Path.{◌≡◌, refl, sym, ap, ◌∙◌, subst}
use mathlib.Core.Bool.{Bool, true, false, not, cond}
use Prim.Native.Nat.{ℕ, zero, suc, ◌+◌, ◌-◌, ◌*◌, ◌/◌, ◌%◌, ◌^◌, ◌≤◌, ◌<◌, compare, Ordering}
use native.Mathlib.Nat.{mod-lt, div-add-mod'}
use native.Mathlib.Omega.{arith}
use lib.Dec.{T, is_le, compare_is_eq, ltb, eqb, leb→le, nleb→lt, eqb→eq, eqb_refl}
use lib.Arith.{lt_of_le-ne}
use lib.Ieee.{inf, binary64, nearest, neg, round, units, odd, size}
use lib.Ieee.Fits.{round_is}
use lib.Ieee.Nearest.{closest}

-- ---- what `compare` says
abbrev Cmp : Ordering → ℕ → ℕ → Type 0
Cmp Ordering.lt a b = a < b
Cmp Ordering.eq a b = a ≡ b
Cmp Ordering.gt a b = b < a

cmp : (a b : ℕ) → Cmp (compare a b) a b
cmp a b = go (compare a b) (leb→le a b) (nleb→lt a b) (eqb→eq a b) (λ (e : a ≡ b). subst (λ (x : ℕ). T (eqb a x)) e (eqb_refl a))
  where
    go : (o : Ordering) → (T (is_le o) → a ≤ b) → (T (not (is_le o)) → b < a) → (T (compare_is_eq o) → a ≡ b) → (a ≡ b → T (compare_is_eq o)) → Cmp o a b
    go Ordering.lt h k e n = lt_of_le-ne (h tt) n
    go Ordering.eq h k e n = e tt
    go Ordering.gt h k e n = k tt

no_both : (a b : ℕ) → a < b → a ≡ b → ⊥
no_both a b h e = omega arith

no-two : (a b : ℕ) → a < b → b < a → ⊥
no-two a b h e = omega arith

is_lt : (a b : ℕ) → a < b → compare a b ≡ Ordering.lt
is_lt a b h = go (compare a b) (cmp a b)
  where
    go : (o : Ordering) → Cmp o a b → o ≡ Ordering.lt
    go Ordering.lt k = refl
    go Ordering.eq k = absurd (no_both a b h k)
    go Ordering.gt k = absurd (no-two a b h k)

is_gt : (a b : ℕ) → b < a → compare a b ≡ Ordering.gt
is_gt a b h = go (compare a b) (cmp a b)
  where
    go : (o : Ordering) → Cmp o a b → o ≡ Ordering.gt
    go Ordering.lt k = absurd (no-two a b k h)
    go Ordering.eq k = absurd (no_both b a h (sym k))
    go Ordering.gt k = refl

is_eq : (a b : ℕ) → a ≡ b → compare a b ≡ Ordering.eq
is_eq a b h = go (compare a b) (cmp a b)
  where
    go : (o : Ordering) → Cmp o a b → o ≡ Ordering.eq
    go Ordering.lt k = absurd (no_both a b k h)
    go Ordering.eq k = refl
    go Ordering.gt k = absurd (no_both b a k (sym h))

-- ---- the three ways of `closest`: the remainder is less than a half, more, or a half
pub less : (a b : ℕ) → a % b * 2 < b → closest a b ≡ a / b
less a b h = ap (nearest (a / b)) (is_lt (a % b * 2) b h)

pub more : (a b : ℕ) → b < a % b * 2 → closest a b ≡ a / b + 1
more a b h = ap (nearest (a / b)) (is_gt (a % b * 2) b h) ∙ one (a / b)
  where
    one : (n : ℕ) → suc n ≡ n + 1
    one n = omega arith

pub tie : (a b : ℕ) → a % b * 2 ≡ b → closest a b ≡ a / b + a / b % 2
tie a b h = ap (nearest (a / b)) (is_eq (a % b * 2) b h)

-- ---- the sign goes through `round`
neg-odd : (d q k l : ℕ) → neg (odd d false q k l) ≡ odd d true q k l
unfolding odd neg
neg-odd d zero k l = refl
neg-odd d (suc q) k l = refl

neg-units : (q k : ℕ) → neg (units binary64 false q k) ≡ units binary64 true q k
unfolding units neg
neg-units q k = go (ltb (q * 2 ^ k) (2 ^ (1074 + 1024)))
  where
    go : (b : Bool) → neg (cond b (odd 54 false q k 1074) (inf false)) ≡ cond b (odd 54 true q k 1074) (inf true)
    go true = neg-odd 54 q k 1074
    go false = refl

pub neg-round : (a c : ℕ) → neg (round binary64 false a c) ≡ round binary64 true a c
neg-round a c = ap neg (round_is binary64 false a c) ∙ neg-units (closest (a * 2 ^ 1074) (c * 2 ^ (size (a * 2 ^ 1074 / c) - 53))) (size (a * 2 ^ 1074 / c) - 53) ∙ sym (round_is binary64 true a c)

-- ---- for a reader who doubts `closest`: a / b is within a half of it, and where it is a half away the whole number is even
pub closest-near : (a b : ℕ) → 0 < b → (2 * a ≤ 2 * (closest a b * b) + b) × (2 * (closest a b * b) ≤ 2 * a + b)
closest-near a b B = go (compare (a % b * 2) b) (cmp (a % b * 2) b)
  where
    parts : a / b * b + a % b ≡ a
    parts = div-add-mod' a b

    go : (o : Ordering) → Cmp o (a % b * 2) b → (2 * a ≤ 2 * (nearest (a / b) o * b) + b) × (2 * (nearest (a / b) o * b) ≤ 2 * a + b)
    go Ordering.lt h = below (a / b * b) (a % b) a b parts h
      where
        below : (w r a b : ℕ) → w + r ≡ a → r * 2 < b → (2 * a ≤ 2 * w + b) × (2 * w ≤ 2 * a + b)
        below w r a b e h = omega arith
    go Ordering.gt h = above (a / b) (a % b) a b parts h (mod-lt a B)
      where
        above : (q r a b : ℕ) → q * b + r ≡ a → b < r * 2 → r < b → (2 * a ≤ 2 * (suc q * b) + b) × (2 * (suc q * b) ≤ 2 * a + b)
        above q r a b e h l = omega arith
    go Ordering.eq h = half (a / b % 2) (a / b) (a % b) a b parts h (two (a / b))
      where
        two : (q : ℕ) → q % 2 < 2
        two q = omega arith

        half : (p q r a b : ℕ) → q * b + r ≡ a → r * 2 ≡ b → p < 2 → (2 * a ≤ 2 * ((q + p) * b) + b) × (2 * ((q + p) * b) ≤ 2 * a + b)
        half zero q r a b e h l = omega arith
        half (suc zero) q r a b e h l = omega arith
        half (suc (suc p)) q r a b e h l = absurd (no p l)
          where
            no : (p : ℕ) → suc (suc p) < 2 → ⊥
            no p l = omega arith

pub closest-even : (a b : ℕ) → a % b * 2 ≡ b → closest a b % 2 ≡ 0
closest-even a b h = ap (λ (n : ℕ). n % 2) (tie a b h) ∙ even (a / b)
  where
    even : (q : ℕ) → (q + q % 2) % 2 ≡ 0
    even q = omega arith
