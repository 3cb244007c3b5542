-- The requests `root X` and `half_turn Q`, of the words behind the first. Assumes nothing.
use Rattle.std.specs.Prelude.{ℕ, List, [], ◌∷◌, codes, Float, Option, Some, None}
use Rattle.std.specs.List.{concat}
use Rattle.std.specs.Float.{binary64}
use Rattle.std.specs.Float.Ieee.{of_bits}
use Rattle.words.specs.Read.{Reader, give, ◌>>=◌, ◌>>◌, number, end}
use Rattle.words.specs.Write.{double_text}
use Rattle.square_root.specs.SquareRoot.{root_of}
use Rattle.half_turn.specs.HalfTurn.{half_turn_of}
use Rattle.half_turn.specs.declared.SinCos.{SinCos}

-- one double, and no word behind it
unfoldable pub only_double : Reader Float
only_double = do
  v ← number
  end
  give (of_bits binary64 v)

abbrev pub root_line : Option Float → List ℕ
root_line (Some y) = concat (codes "root " ∷ double_text y ∷ codes "\n" ∷ [])
root_line None = codes "no root\n"

-- ROOT X
unfoldable pub root_request : Reader (List ℕ)
root_request = do
  x ← only_double
  give (root_line (root_of x))

abbrev pub half_turn_line : Option SinCos → List ℕ
half_turn_line (Some v) = concat (codes "half_turn " ∷ double_text v.sin ∷ codes " " ∷ double_text v.cos ∷ codes "\n" ∷ [])
half_turn_line None = codes "out of range\n"

-- HALF_TURN Q
unfoldable pub half_turn_request : Reader (List ℕ)
half_turn_request = do
  q ← only_double
  give (half_turn_line (half_turn_of q))
