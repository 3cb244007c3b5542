-- WHAT THE INPUT IS ANSWERED, line by line. Assumes nothing.
use Rattle.std.specs.Prelude.{ℕ, Bool, false, cond, ◌≡◌, List, [], ◌∷◌, ◌++◌, take, drop}
use Rattle.words.specs.Line.{in_line, line_step}
use Rattle.arm.specs.Model.{empty_model}
use Rattle.arm.specs.declared.model.Model.{Model}
use Rattle.replies.specs.Replies.{error_text}
use Rattle.requests.specs.Answer.{answer_of}
use Rattle.desk.specs.declared.block.Stand.{Stand}

-- the current model, and the line so far: its bytes, and whether it has grown too long
abbrev pub State : Type 0
State = Model × (List ℕ × Bool)

abbrev pub new_line : Model → State
new_line m = (m, ([], false))

-- the answer to a line that has ended, and the model from then on; it is an error where it has grown too long
unfoldable pub end_of : State → List ℕ × Model
end_of s = cond s.1.1 (error_text, s.0) (answer_of s.0 s.1.0)

-- the answers to the lines that end in these bytes
unfoldable pub answers_of : State → List ℕ → List ℕ
answers_of s [] = []
answers_of s (b ∷ l) = cond (in_line b) (answers_of (s.0, line_step s.1 b) l) ((end_of s).0 ++ answers_of (new_line (end_of s).1) l)

-- and what is left behind them
unfoldable pub left_of : State → List ℕ → State
left_of s [] = s
left_of s (b ∷ l) = cond (in_line b) (left_of (s.0, line_step s.1 b) l) (left_of (new_line (end_of s).1) l)

-- the whole input: a last line without a newline is answered like any other
unfoldable pub output_of : List ℕ → List ℕ
output_of input = answers_of (new_line empty_model) input ++ (end_of (left_of (new_line empty_model) input)).0

-- ---- from one place of a block to another, with the line so far and the answers so far
abbrev pub state_at : Stand → List ℕ → State
state_at s line = (s.model, (take s.len line, s.over))

abbrev pub answers_from : List ℕ → Stand → List ℕ → List ℕ → List ℕ
answers_from block s line out = take s.wait out ++ answers_of (state_at s line) (drop s.next block)

abbrev pub left_from : List ℕ → Stand → List ℕ → State
left_from block s line = left_of (state_at s line) (drop s.next block)

-- all answers that the block will have, and what will be left, are the same from both
pub record Moved (block : List ℕ) (s : Stand) (line out : List ℕ) (r : Stand) (line' out' : List ℕ) : Type 0 where
  pub answers : answers_from block r line' out' ≡ answers_from block s line out
  pub left : left_from block r line' ≡ left_from block s line
