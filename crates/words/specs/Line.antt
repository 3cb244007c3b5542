-- Lines, out of input that comes in blocks. Assumes nothing.
use Rattle.std.specs.Prelude.{ℕ, Bool, true, not, cond, List, [], ◌∷◌, ◌++◌, length, eqb, ltb}
use Rattle.std.specs.List.{prefix_len}

-- every byte but a newline
abbrev pub in_line : ℕ → Bool
in_line b = not (eqb b 10)

-- a line so far, of which 65,535 bytes are kept, and whether it has grown longer: one byte more
abbrev pub line_step : List ℕ × Bool → ℕ → List ℕ × Bool
line_step t b = cond (ltb (length t.0) 65535) (t.0 ++ (b ∷ []), t.1) (t.0, true)

-- the bytes up to a newline more
unfoldable pub line_of : List ℕ × Bool → List ℕ → List ℕ × Bool
line_of t [] = t
line_of t (b ∷ l) = cond (in_line b) (line_of (line_step t b) l) t

-- how many bytes stand before the first newline
abbrev pub before_of : List ℕ → ℕ
before_of l = prefix_len in_line l
