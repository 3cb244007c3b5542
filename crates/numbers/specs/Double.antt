-- Doubles: IEEE 754's binary64, of lib.Ieee. Each operation rounds its exact result once, to the nearest, ties to even. Definitions only.
use Rattle.std.specs.Prelude.{List, Bool, true, false, cond, ◌&&◌, ℕ, zero, suc, get_or, length}
use lib.Ieee.{Float, nan, inf, fin, binary64, add, sub, mul, div, lt, of_bits}

infixl 60 ◌⊕◌ ◌⊖◌
infixl 70 ◌⊗◌ ◌⊘◌
-- the rounded sum, difference, product and quotient
abbrev pub ◌⊕◌ : Float → Float → Float
◌⊕◌ a b = add binary64 a b

abbrev pub ◌⊖◌ : Float → Float → Float
◌⊖◌ a b = sub binary64 a b

abbrev pub ◌⊗◌ : Float → Float → Float
◌⊗◌ a b = mul binary64 a b

abbrev pub ◌⊘◌ : Float → Float → Float
◌⊘◌ a b = div binary64 a b

-- the double of a bit pattern
abbrev pub bits : ℕ → Float
bits b = of_bits binary64 b

abbrev pub 0·0 : Float
0·0 = bits 0

abbrev pub 0·5 : Float
0·5 = bits 0x3fe0_0000_0000_0000

abbrev pub 1·0 : Float
1·0 = bits 0x3ff0_0000_0000_0000

abbrev pub 2·0 : Float
2·0 = bits 0x4000_0000_0000_0000

-- ---- one double

unfoldable pub finite : Float → Bool
finite nan = false
finite (inf s) = false
finite (fin s m e) = true

-- |x|
unfoldable pub abs_of : Float → Float
abs_of nan = nan
abs_of (inf s) = inf false
abs_of (fin s m e) = fin false m e

-- the larger
unfoldable pub max_of : Float → Float → Float
max_of a b = cond (lt a b) b a

-- ---- lists of them

-- the first n of v are finite
unfoldable pub finite_to : List Float → ℕ → Bool
finite_to v zero = true
finite_to v (suc n) = finite_to v n && finite (get_or v n nan)

abbrev pub all_finite : List Float → Bool
all_finite v = finite_to v (length v)

-- the largest of 0, |v 0|, .., |v (n - 1)|
unfoldable pub amax_to : List Float → ℕ → Float
amax_to v zero = 0·0
amax_to v (suc n) = max_of (amax_to v n) (abs_of (get_or v n nan))

abbrev pub amax_of : List Float → Float
amax_of v = amax_to v (length v)
