-- The base solve of document 01: B = D⁻¹ A D⁻¹, B y = D⁻¹ b, x = D⁻¹ y, with its tests in their order. Definitions only.
-- A vector is a list of six, a matrix a list of 36, row by row.
use Rattle.std.specs.Prelude.{Bool, true, not, cond, ◌&&◌, List, [], ◌∷◌, ℕ, zero, suc, ◌/◌, ◌%◌, get_or, set, Float, Option, Some, None, Result, Ok, Err}
use Rattle.std.specs.Float.{nan}
use Rattle.std.specs.Float.Ieee.{lt, le}
use Rattle.numbers.specs.Double.{◌⊕◌, ◌⊖◌, ◌⊗◌, ◌⊘◌, bits, 0·0, 1·0, abs_of, max_of, all_finite, amax_of}
use Rattle.numbers.specs.Sum.{sum_to}
use Rattle.numbers.specs.Table.{tab}
use Rattle.square_root.specs.SquareRoot.{root_of}
use Rattle.mat6.specs.Mat6.{cell, apply_of}
use Rattle.cholesky.specs.Cholesky.{cholesky_of, solve_of}
use Rattle.spatial.specs.Twist.{of_vector, zeros_of}
use Rattle.spatial.specs.declared.twist.Twist.{Twist}
use Rattle.base_solve.specs.declared.Unsolved.{Unsolved}
use Rattle.base_solve.specs.declared.Unsolved.TheVariants.{Singular, IllConditioned, Numerical}

-- ---- the answer, by document 01's number: 0 is solved

abbrev pub refusal_number : Unsolved → ℕ
refusal_number Singular = 32
refusal_number IllConditioned = 33
refusal_number Numerical = 34

abbrev pub solved : Twist → ℕ × Twist
solved x = (0, x)

-- a refusal has no solution
abbrev pub refusal : ℕ → ℕ × Twist
refusal number = (number, zeros_of)

abbrev pub told : Result Twist Unsolved → ℕ × Twist
told (Ok x) = solved x
told (Err u) = refusal (refusal_number u)

-- ---- scaling

-- the root, and NaN where there is none
unfoldable pub root_or : Option Float → Float
root_or (Some r) = r
root_or None = nan

-- the first n of the diagonal are not ≤ 0
unfoldable pub above_to : List Float → ℕ → Bool
above_to a zero = true
above_to a (suc n) = above_to a n && not (le (cell a n n) 0·0)

unfoldable pub scale_of : List Float → List Float
unfolding tab
scale_of a = tab (λ i. root_or (root_of (cell a i i))) 6

-- sequential division
unfoldable pub scaled_of : List Float → List Float → List Float
unfolding tab
scaled_of a s = tab (λ t. get_or a t nan ⊘ get_or s (t / 6) nan ⊘ get_or s (t % 6) nan) 36

-- component by component
unfoldable pub divided_of : List Float → List Float → List Float
unfolding tab
divided_of b s = tab (λ i. get_or b i nan ⊘ get_or s i nan) 6

unfoldable pub difference_of : List Float → List Float → List Float
unfolding tab
difference_of a b = tab (λ i. get_or a i nan ⊖ get_or b i nan) 6

-- every component by one number
unfoldable pub over_of : List Float → Float → List Float
unfolding tab
over_of b g = tab (λ i. get_or b i nan ⊘ g) 6

-- ---- norms

-- the sum of the sizes of column j
unfoldable pub column_sum : List Float → ℕ → Float
unfolding sum_to
column_sum a j = sum_to (λ i. abs_of (cell a i j)) 6

-- the largest of 0 and the first n columns' sums
unfoldable pub norm_to : List Float → ℕ → Float
norm_to a zero = 0·0
norm_to a (suc n) = max_of (norm_to a n) (column_sum a n)

-- the sum of the sizes of a vector
unfoldable pub size_of : List Float → Float
unfolding sum_to
size_of v = sum_to (λ i. abs_of (get_or v i nan)) 6

-- 1 at j, 0 elsewhere
unfoldable pub basis : ℕ → List Float
basis j = set (0·0 ∷ 0·0 ∷ 0·0 ∷ 0·0 ∷ 0·0 ∷ 0·0 ∷ []) j 1·0

-- one column of the inverse more: its sum too, or none where it is not finite
unfoldable pub next_norm : List Float → Option Float → ℕ → Option Float
next_norm l None j = None
next_norm l (Some top) j = let x = solve_of l (basis j) in cond (all_finite x) (Some (max_of top (size_of x))) None

-- the first n columns of the inverse: the largest of 0 and their sums, or none where one is not finite
unfoldable pub inverse_to : List Float → ℕ → Option Float
inverse_to l zero = Some 0·0
inverse_to l (suc n) = next_norm l (inverse_to l n) n

-- ---- the residual

unfoldable pub residual_of : List Float → List Float → List Float → List Float
residual_of a y b = difference_of (apply_of a y) b

-- 2 ^ -45
abbrev pub residual_bound : Float
residual_bound = bits 0x3d20_0000_0000_0000

unfoldable pub near_of : List Float → List Float → List Float → Float → Bool
near_of a y b norm =
    let r = residual_of a y b in
    let denominator = norm ⊗ amax_of y ⊕ amax_of b in
    all_finite r && not (lt (residual_bound ⊗ denominator) (amax_of r))

-- only if `magnitude` is above 0
unfoldable pub checked_of : List Float → List Float → List Float → Float → Bool
checked_of a y b norm =
    let magnitude = max_of (amax_of y) (amax_of b) in
    cond (lt 0·0 magnitude) (near_of a (over_of y magnitude) (over_of b magnitude) norm) true

-- ---- the solve, from its end to its start

-- solution not finite, 34; residual not finite or above 2^-45 × denominator, 34
unfoldable pub solution_of : List Float → List Float → List Float → List Float → Float → ℕ × Twist
solution_of a l b s norm =
    let y = solve_of l b in
    let x = divided_of y s in
    cond (all_finite y && all_finite x) (cond (checked_of a y b norm) (solved (of_vector x)) (refusal 34)) (refusal 34)

-- 2 ^ -26
abbrev pub condition_bound : Float
condition_bound = bits 0x3e50_0000_0000_0000

-- inverse column not finite, 33; (1/norm)/inverse norm ≤ 2^-26, 33; the last is what is answered otherwise
abbrev pub condition_of : Float → Option Float → ℕ × Twist → ℕ × Twist
condition_of norm None x = refusal 33
condition_of norm (Some top) x = cond (le (1·0 ⊘ norm ⊘ top) condition_bound) (refusal 33) x

unfoldable pub conditioned_of : List Float → List Float → List Float → List Float → ℕ × Twist
conditioned_of a l b s = let norm = norm_to a 6 in condition_of norm (inverse_to l 6) (solution_of a l b s norm)

-- scaled matrix or right side not finite, 34; Cholesky fails, 32
unfoldable pub factored_of : List Float → List Float → List Float → ℕ × Twist
factored_of a b s =
    let f = cholesky_of a in
    cond (all_finite a && all_finite b) (cond f.0 (conditioned_of a f.1 b s) (refusal 32)) (refusal 34)

-- any input not finite, 34; diagonal ≤ 0, 32
unfoldable pub base_solve : List Float → List Float → ℕ × Twist
base_solve a b =
    let s = scale_of a in
    cond (all_finite a && all_finite b) (cond (above_to a 6) (factored_of (scaled_of a s) (divided_of b s) s) (refusal 32)) (refusal 34)
