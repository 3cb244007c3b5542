-- Whole solves, computed: one that is solved, and seven that are refused, in the order of the tests. None is here for a scaled right side, an inverse column or
-- a residual that is not finite. Assumes nothing.
use mathlib.Core.Bool.{cond}
use mathlib.Core.List.{List, [], ◌∷◌}
use mathlib.Core.Path.{◌≡◌, refl}
use Prim.Native.Nat.{◌+◌}
use lib.Dec.{eqb, ltb}
use lib.Ieee.{Float, of_bits, size, add, sub, mul, div, lt, le}
use Rattle.numbers.specs.Double.{bits, 0·0, 0·5, 1·0, finite, abs_of, max_of, finite_to, amax_to}
use Rattle.numbers.specs.Sum.{sum_to, less_to}
use Rattle.numbers.specs.Table.{tab}
use Rattle.square_root.specs.SquareRoot.{root_of}
use Rattle.mat6.specs.Mat6.{mat_by, apply_of, row_of}
use Rattle.cholesky.specs.Cholesky.{cholesky_to, factor_column, below_to, less_of, forward_to, forward_row, back_to, back_row, solve_of}
use Rattle.spatial.specs.Twist.{of_vector}
use Rattle.base_solve.specs.BaseSolve.{solved, refusal, root_or, above_to, scale_of, scaled_of, divided_of, over_of, difference_of, column_sum, norm_to, size_of, basis, next_norm, inverse_to, residual_of, near_of, checked_of, solution_of, conditioned_of, factored_of, base_solve}

-- six times x, and d on the diagonal with x elsewhere
abbrev six : Float → List Float
six x = x ∷ x ∷ x ∷ x ∷ x ∷ x ∷ []

abbrev square : Float → Float → List Float
square d x = mat_by (λ i j. cond (eqb i j) d x)

-- 2 ^ 400 and 2 ^ -1000, the infinity, and 1 - 2 ^ -29
abbrev large : Float
large = bits 0x58f0_0000_0000_0000

abbrev tiny : Float
tiny = bits 0x0170_0000_0000_0000

abbrev endless : Float
endless = bits 0x7ff0_0000_0000_0000

abbrev nearly : Float
nearly = bits 0x3fef_ffff_ff00_0000

-- in the order of the tests
pub solve-cases :
    -- an identity gives its right side back
    (base_solve (square 1·0 0·0) (six 1·0) ≡ solved (of_vector (six 1·0)))
    -- any input not finite
    × (base_solve (square 1·0 0·0) (six endless) ≡ refusal 34)
    -- diagonal ≤ 0
    × (base_solve (square 0·0 0·0) (six 1·0) ≡ refusal 32)
    -- scaled matrix not finite
    × (base_solve (square tiny large) (six 1·0) ≡ refusal 34)
    -- Cholesky fails
    × (base_solve (square 1·0 1·0) (six 1·0) ≡ refusal 32)
    -- reciprocal condition ≤ 2^-26
    × (base_solve (mat_by (λ i j. cond (eqb i j) 1·0 (cond (eqb (i + j) 1) nearly 0·0))) (six 1·0) ≡ refusal 33)
    -- solution not finite
    × (base_solve (square tiny 0·0) (six large) ≡ refusal 34)
    -- the factor reads the lower half alone, and the residual shows it
    × (base_solve (mat_by (λ i j. cond (ltb i j) 0·5 (cond (eqb i j) 1·0 0·0))) (six 1·0) ≡ refusal 34)
unfolding base_solve factored_of conditioned_of solution_of checked_of near_of residual_of inverse_to next_norm basis size_of norm_to column_sum over_of divided_of difference_of scaled_of scale_of above_to root_or finite_to finite abs_of max_of amax_to tab sum_to less_to apply_of row_of cholesky_to factor_column below_to less_of forward_to forward_row back_to back_row solve_of root_of of_bits size add sub mul div lt le
solve-cases = (refl, refl, refl, refl, refl, refl, refl, refl)
