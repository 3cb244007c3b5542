-- The request `model`. Assumes nothing.
use Rattle.std.specs.Prelude.{ℕ, List, ◌++◌, Ok, Err}
use Rattle.words.specs.Read.{Reader, give, ◌>>=◌}
use Rattle.std.specs.Prelude.{codes}
use Rattle.refusals.specs.Refusals.{Verdict}
use Rattle.arm.specs.declared.model.Model.{Model}
use Rattle.builder.specs.Build.{built_of}
use Rattle.builder.specs.declared.build.Built.{Built}
use Rattle.replies.specs.Replies.{refused_text}
use Rattle.model_lists.specs.Read.{handed}

abbrev pub built_line : Verdict → List ℕ
built_line (Ok u) = codes "model\n"
built_line (Err r) = refused_text r ++ codes "\n"

-- the builder's model, the empty one where it refuses
abbrev pub built_reply : Built → List ℕ × Model
built_reply b = (built_line b.verdict, b.model)

-- what the builder makes of the lists
unfoldable pub built : Reader Built
built = do
  h ← handed
  give (built_of h.n h.parents h.kinds h.origins h.axes h.links h.rotors)

unfoldable pub model_request : Reader (List ℕ × Model)
model_request = do
  b ← built
  give (built_reply b)
