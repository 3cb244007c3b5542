-- The square root of a double, correctly rounded (document 01, "Number rules"). Definitions only.
use Rattle.std.specs.Prelude.{◌≡◌, true, false, cond, ◌&&◌, ℕ, zero, suc, ◌+◌, ◌-◌, ◌*◌, ◌/◌, ◌%◌, ◌^◌, ◌<◌, ◌≤◌, T, leb, ltb, Float, Option, Some, None}
use Rattle.std.specs.Float.{nan, inf, fin, binary64}
use Rattle.std.specs.Float.Ieee.{up, down, size, fits, of_bits}
use Rattle.std.specs.Float.Ieee.Positive.{positive}

-- ---- what the answer has to be

-- A finite double's size in units of the smallest one, 2 ^ -1074: a whole number.
unfoldable pub mag : Float → ℕ
mag nan = 0
mag (inf s) = 0
mag (fin s m e) = m * up e * 2 ^ 1074 / down e

-- r is the double nearest the root of x, for x finite and above zero. In units the root is that of X = mag x * 2 ^ 1074.
-- Another double y is further away exactly where the mean of y and r lies on y's side of the root: (y + r) / 2 < √X is (y + r)² < 4 X.
-- Both bounds are strict, so no other double is as near: a tie never happens, and "ties to even" has nothing to decide.
pub record Nearest (x r : Float) : Type 0 where
  pub held : T (fits binary64 r && positive r)
  pub below : (y : Float) → T (fits binary64 y) → mag y < mag r → (mag y + mag r) * (mag y + mag r) < 4 * (mag x * 2 ^ 1074)
  pub above : (y : Float) → T (fits binary64 y) → mag r < mag y → 4 * (mag x * 2 ^ 1074) < (mag y + mag r) * (mag y + mag r)

-- The answer for each double: zeros and +infinity are their own roots, NaN and what is below zero have none.
unfoldable pub RootIs : Float → Option Float → Type 0
RootIs nan a = a ≡ None
RootIs (inf true) a = a ≡ None
RootIs (inf false) a = a ≡ Some (inf false)
RootIs (fin s zero e) a = a ≡ Some (fin s zero e)
RootIs (fin true (suc m) e) a = a ≡ None
RootIs (fin false (suc m) e) a = (r : Float) × (a ≡ Some r) × Nearest (fin false (suc m) e) r

-- ---- the same answer, worked out: the definitions above this crate speak of it as a function

-- the d binary digits of the root of n, cut: for n below 4 ^ d
unfoldable pub isqrt : ℕ → ℕ → ℕ
isqrt zero n = 0
isqrt (suc d) n = let r = 2 * isqrt d (n / 4) in cond (leb ((r + 1) * (r + 1)) n) (r + 1) r

-- The bit pattern of the double nearest √X units. 4 ^ h is such that X / 4 ^ h has 107 or 108 binary digits, and its root 54: one more than a double holds.
unfoldable pub pattern_of : ℕ → ℕ
unfolding isqrt
pattern_of X = let h = (size X - 1) / 2 - 53 in (h + 1) * 2 ^ 52 + (isqrt 54 (X / 4 ^ h) + 1) / 2

unfoldable pub root_of : Float → Option Float
unfolding pattern_of mag
root_of nan = None
root_of (inf true) = None
root_of (inf false) = Some (inf false)
root_of (fin s zero e) = Some (fin s zero e)
root_of (fin true (suc m) e) = None
root_of (fin false (suc m) e) = Some (of_bits binary64 (pattern_of (mag (fin false (suc m) e) * 2 ^ 1074)))

-- ---- what the steps of the code promise each other

-- what a pattern's digits and exponent stand for, below the infinity's: sig_of b * 2 ^ exp_of b units
abbrev pub sig_of : ℕ → ℕ
sig_of b = cond (ltb b 4503599627370496) b (4503599627370496 + b % 4503599627370496)

abbrev pub exp_of : ℕ → ℕ
exp_of b = b / 4503599627370496 - 1

-- one digit more: the root s and what is left over u, for 4 n + d where r and m make n
pub record NextPart (r m d s u : ℕ) : Type 0 where
  pub value : s * s + u ≡ 4 * (r * r + m) + d
  pub rest : u ≤ 2 * s
  pub short : s ≤ 2 * r + 1
