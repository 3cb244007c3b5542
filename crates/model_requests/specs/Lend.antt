-- The request `lend`. Assumes nothing.
use Rattle.std.specs.Prelude.{ℕ, List}
use Rattle.words.specs.Read.{Reader, give, given, ◌>>=◌}
use Rattle.std.specs.Prelude.{codes}
use Rattle.arm.specs.declared.model.Model.{Model}
use Rattle.model_lists.specs.Lent.{lent_by}
use Rattle.model_lists.specs.Read.{handed}

-- the lists as a model's own, if they can be
unfoldable pub lent : Reader Model
lent = do
  h ← handed
  given (lent_by h)

unfoldable pub lend_request : Reader (List ℕ × Model)
lend_request = do
  m ← lent
  give (codes "lent\n", m)
