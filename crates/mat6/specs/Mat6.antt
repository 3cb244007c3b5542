-- 6×6 matrices, row by row in one list of 36: entry (i, j) stands at i * 6 + j. A vector is a list of six. Definitions only.
use Rattle.std.specs.Prelude.{List, ℕ, ◌+◌, ◌*◌, ◌/◌, ◌%◌, get_or, Float}
use Rattle.std.specs.Float.{nan}
use Rattle.numbers.specs.Double.{◌⊕◌, ◌⊗◌}
use Rattle.numbers.specs.Sum.{sum_to}
use Rattle.numbers.specs.Table.{tab}

abbrev pub cell : List Float → ℕ → ℕ → Float
cell m i j = get_or m (i * 6 + j) nan

-- the matrix whose entry (i, j) is f i j
abbrev pub mat_by : (ℕ → ℕ → Float) → List Float
mat_by f = tab (λ t. f (t / 6) (t % 6)) 36

unfoldable pub plus_of : List Float → List Float → List Float
unfolding tab
plus_of a b = tab (λ t. get_or a t nan ⊕ get_or b t nan) 36

-- row i of m v
unfoldable pub row_of : List Float → List Float → ℕ → Float
unfolding sum_to
row_of m v i = sum_to (λ k. cell m i k ⊗ get_or v k nan) 6

-- m v
unfoldable pub apply_of : List Float → List Float → List Float
unfolding tab
apply_of m v = tab (row_of m v) 6
