-- Cholesky's lower factor by columns, written over the matrix, and solving by it. Definitions only.
use Rattle.std.specs.Prelude.{List, Bool, true, false, cond, ℕ, zero, suc, ◌+◌, ◌-◌, ◌*◌, get_or, set, Float, Option, Some, None}
use Rattle.std.specs.Float.{nan}
use Rattle.std.specs.Float.Ieee.{lt}
use Rattle.numbers.specs.Double.{◌⊗◌, ◌⊘◌, 0·0}
use Rattle.numbers.specs.Sum.{less_to}
use Rattle.square_root.specs.SquareRoot.{root_of}
use Rattle.mat6.specs.Mat6.{cell}

-- ---- the factor: whether every pivot so far was above zero, and the numbers

-- entry (i, j) less the products of rows i and j before column n, rising
unfoldable pub less_of : List Float → ℕ → ℕ → ℕ → Float
unfolding less_to
less_of l i j n = less_to (cell l i j) (λ k. cell l i k ⊗ cell l j k) n

-- the n entries of column j below the pivot, whose root is r
unfoldable pub below_to : List Float → ℕ → Float → ℕ → List Float
below_to l j r zero = l
below_to l j r (suc n) = let m = below_to l j r n in set m ((j + 1 + n) * 6 + j) (less_of m (j + 1 + n) j j ⊘ r)

abbrev pub with_root : List Float → ℕ → Option Float → Bool × List Float
with_root l j None = (false, l)
with_root l j (Some r) = (true, below_to (set l (j * 6 + j) r) j r (5 - j))

-- column j: a pivot that is not above zero fails
unfoldable pub factor_column : List Float → ℕ → Bool × List Float
factor_column l j = let p = less_of l j j j in cond (lt 0·0 p) (with_root l j (root_of p)) (false, l)

-- column j where none before it failed
abbrev pub next_of : Bool × List Float → ℕ → Bool × List Float
next_of f j = cond f.0 (factor_column f.1 j) f

-- the first n columns
unfoldable pub cholesky_to : List Float → ℕ → Bool × List Float
cholesky_to a zero = (true, a)
cholesky_to a (suc n) = next_of (cholesky_to a n) n

-- the whole factor
abbrev pub cholesky_of : List Float → Bool × List Float
cholesky_of a = cholesky_to a 6

-- ---- solving: each row subtracts its products in rising index, then divides

unfoldable pub forward_row : List Float → List Float → ℕ → Float
unfolding less_to
forward_row l b i = less_to (get_or b i nan) (λ k. cell l i k ⊗ get_or b k nan) i ⊘ cell l i i

-- the first n rows, from the top
unfoldable pub forward_to : List Float → List Float → ℕ → List Float
forward_to l b zero = b
forward_to l b (suc n) = let c = forward_to l b n in set c n (forward_row l c n)

-- row i less the products of the rows after it, by the transposed factor
unfoldable pub back_row : List Float → List Float → ℕ → Float
unfolding less_to
back_row l b i = less_to (get_or b i nan) (λ k. cell l (i + 1 + k) i ⊗ get_or b (i + 1 + k) nan) (5 - i) ⊘ cell l i i

-- the last n rows, from the bottom
unfoldable pub back_to : List Float → List Float → ℕ → List Float
back_to l b zero = b
back_to l b (suc n) = let c = back_to l b n in set c (5 - n) (back_row l c (5 - n))

-- forward, then back
unfoldable pub solve_of : List Float → List Float → List Float
solve_of l b = back_to l (forward_to l b 6) 6
