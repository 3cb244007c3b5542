-- Sums of doubles: left to right in rising index, from the first term. Definitions only.
use Rattle.std.specs.Prelude.{ℕ, zero, suc, Float}
use Rattle.numbers.specs.Double.{◌⊕◌, ◌⊖◌, 0·0}

-- f 0 + f 1 + .. + f (n - 1), n terms from the first on; of none, which nothing asks for, +0.0
unfoldable pub sum_to : (ℕ → Float) → ℕ → Float
sum_to f zero = 0·0
sum_to f (suc zero) = f 0
sum_to f (suc (suc n)) = sum_to f (suc n) ⊕ f (suc n)

-- x - f 0 - .. - f (n - 1)
unfoldable pub less_to : Float → (ℕ → Float) → ℕ → Float
less_to x f zero = x
less_to x f (suc n) = less_to x f n ⊖ f n
