-- The request `column SIDE COLUMN MATRIX`, of the words behind the first. Assumes nothing.
use Rattle.std.specs.Prelude.{List, [], ◌∷◌, ℕ, codes, Float}
use Rattle.std.specs.List.{concat}
use Rattle.words.specs.Read.{Reader, give, ◌>>=◌, ◌>>◌, number, end}
use Rattle.words.specs.List.{doubles}
use Rattle.words.specs.Write.{double_text, list_text}
use Rattle.mass_matrix.specs.Column.{column_of}

abbrev pub column_line : List Float → List ℕ
column_line l = concat (codes "column " ∷ list_text double_text l ∷ codes "\n" ∷ [])

unfoldable pub column_request : Reader (List ℕ)
column_request = do
  side ← number
  column ← number
  matrix ← doubles
  end
  give (column_line (column_of side column matrix))
