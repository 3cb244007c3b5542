-- What every request shares. Assumes nothing.
use Rattle.std.specs.Prelude.{ℕ, List, [], ◌∷◌, ◌++◌, codes, Option, Some, None}
use Rattle.std.specs.List.{concat}
use Rattle.words.specs.Write.{hex_text, decimal_text}
use Rattle.refusals.specs.declared.Refusal.{Refusal}
use Rattle.arm.specs.declared.model.Model.{Model}

-- no answer is longer
abbrev pub room : ℕ
room = 131072

-- a line that is no request
abbrev pub error_text : List ℕ
error_text = codes "error\n"

-- what a request answers, of what its reader made of the words
abbrev pub text_of : Option (List ℕ × List (List ℕ)) → List ℕ
text_of None = error_text
text_of (Some p) = p.0

-- and with the model that is current from then on: an error changes nothing
abbrev pub reply_of : Model → Option ((List ℕ × Model) × List (List ℕ)) → List ℕ × Model
reply_of m None = (error_text, m)
reply_of m (Some p) = p.0

-- behind what stands there
abbrev pub behind : List ℕ → List ℕ × Model → List ℕ × Model
behind o a = (o ++ a.0, a.1)

-- ---- a refusal: its number is in decimal

abbrev pub place_text : Option ℕ → List ℕ
place_text (Some i) = hex_text i
place_text None = codes "-"

abbrev pub refused_text : Refusal → List ℕ
refused_text r = concat (codes "refused " ∷ decimal_text r.number ∷ codes " " ∷ place_text r.place ∷ [])
