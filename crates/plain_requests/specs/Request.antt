-- The requests `plain_matrix` and `plain_floating_matrix`, of the words behind the first. Assumes nothing.
use Rattle.std.specs.Prelude.{Bool, cond, List, ℕ, ltb, Float}
use Rattle.words.specs.Read.{Reader, give, fail, ◌>>=◌, ◌>>◌, number, end}
use Rattle.words.specs.List.{doubles}
use Rattle.arm.specs.declared.model.Model.{Model}
use Rattle.calls.specs.declared.position.Outcome.{Outcome}
use Rattle.mass_matrix.specs.declared.mass_matrix.Mode.{Mode}
use Rattle.plain_matrix.specs.PlainMatrix.{plain_call}
use Rattle.readings.specs.Lent.{ones}
use Rattle.readings.specs.Read.{mode}
use Rattle.writings.specs.Write.{plain_text}

abbrev pub plain_line : Outcome × List Float → List ℕ
plain_line a = plain_text a.0 a.1

-- R where the root floats, Q and OUT
unfoldable pub plain : Bool → Reader (Mode × List Float × ℕ)
plain floating = do
  root ← mode floating
  q ← doubles
  out ← number
  end
  cond (ltb 2048 out) fail (give (root, q, out))

unfoldable pub plain_request : Model → Bool → Reader (List ℕ)
plain_request m floating = do
  p ← plain floating
  give (plain_line (plain_call p.0 m p.1 (ones p.2)))
