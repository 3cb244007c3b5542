-- The column reader: "A column is read as that part of the lent matrix". Definitions only.
use Rattle.std.specs.Prelude.{Bool, cond, ◌||◌, not, List, [], ℕ, ◌*◌, eqb, leb, ltb, length, take, drop, Float}

-- 25: side 0 or above 38, count not side squared, column not below side
unfoldable pub bad_column : ℕ → ℕ → ℕ → Bool
bad_column side column count = eqb side 0 || (ltb 38 side || (not (eqb count (side * side)) || leb side column))

-- the empty part where it refuses
unfoldable pub column_of : ℕ → ℕ → List Float → List Float
column_of side column matrix = cond (bad_column side column (length matrix)) [] (take side (drop (column * side) matrix))
