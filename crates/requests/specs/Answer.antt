-- WHAT A LINE IS ANSWERED, and the model that is current from then on. Assumes nothing.
use Rattle.std.specs.Prelude.{ℕ, true, false, cond, List, [], ◌∷◌, eqb, bytes_eq, Option, Some, option_map, codes}
use Rattle.words.specs.Read.{words_of, Reader, give, given, ◌>>=◌, word}
use Rattle.arm.specs.declared.model.Model.{Model as Arm}
use Rattle.writings.specs.Column.{column_request}
use Rattle.readings.specs.Read.{kind_named}
use Rattle.calculation_requests.specs.Request.{calculate_request, repeat_request, resume_request}
use Rattle.plain_requests.specs.Request.{plain_request}
use Rattle.standing_requests.specs.Request.{stands_request}
use Rattle.calculations.specs.declared.make.How.TheVariants.{Times}
use Rattle.requests.specs.declared.answer.Name.{Name}
use Rattle.requests.specs.declared.answer.Name.TheVariants.{Model, Lend, Calculation, Plain, Stands, Column, Root, Repeat, Resume, HalfTurn}
use Rattle.replies.specs.Replies.{reply_of}
use Rattle.model_requests.specs.Lend.{lend_request}
use Rattle.model_requests.specs.Model.{model_request}
use Rattle.routine_requests.specs.Routines.{root_request, half_turn_request}

-- the request that a word names
unfoldable pub name_of : List ℕ → Option Name
name_of w =
    cond (bytes_eq w (codes "model")) (Some Model)
    (cond (bytes_eq w (codes "lend")) (Some Lend)
    (cond (bytes_eq w (codes "column")) (Some Column)
    (cond (bytes_eq w (codes "root")) (Some Root)
    (cond (bytes_eq w (codes "repeat")) (Some Repeat)
    (cond (bytes_eq w (codes "resume")) (Some Resume)
    (cond (bytes_eq w (codes "half_turn")) (Some HalfTurn)
    (cond (bytes_eq w (codes "plain_matrix")) (Some (Plain false))
    (cond (bytes_eq w (codes "plain_floating_matrix")) (Some (Plain true))
    (cond (bytes_eq w (codes "stands")) (Some Stands)
    (option_map Calculation (kind_named w)))))))))))

-- a request that keeps the current model
abbrev pub keeping : Arm → Reader (List ℕ) → Reader (List ℕ × Arm)
keeping m r = do
  text ← r
  give (text, m)

-- its answer, from the words behind the first, and the model from then on
abbrev pub named_request : Arm → Name → Reader (List ℕ × Arm)
named_request m Model = model_request
named_request m Lend = lend_request
named_request m (Calculation k) = keeping m (calculate_request m (Times 1) k)
named_request m (Plain floating) = keeping m (plain_request m floating)
named_request m Stands = keeping m (stands_request m)
named_request m Column = keeping m column_request
named_request m Root = keeping m root_request
named_request m Repeat = keeping m (repeat_request m)
named_request m Resume = keeping m (resume_request m)
named_request m HalfTurn = keeping m half_turn_request

unfoldable pub request_of : Arm → Reader (List ℕ × Arm)
request_of m = do
  w ← word
  name ← given (name_of w)
  named_request m name

-- nothing for a line of no bytes and for a comment, whose first byte is `#`
unfoldable pub answer_of : Arm → List ℕ → List ℕ × Arm
answer_of m [] = ([], m)
answer_of m (b ∷ l) = cond (eqb b 35) ([], m) (reply_of m (request_of m (words_of (b ∷ l))))
