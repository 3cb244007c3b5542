-- The lists as a model's own. Assumes nothing.
use Rattle.std.specs.Prelude.{ℕ, Bool, true, cond, ◌&&◌, List, [], ◌∷◌, eqb, ltb, length, Option, Some, None}
use Rattle.arm.specs.declared.model.Model.{Model}
use Rattle.model_lists.specs.Read.{Numbers}

-- numbers below 256
unfoldable pub all_bytes : List ℕ → Bool
all_bytes [] = true
all_bytes (x ∷ l) = ltb x 256 && all_bytes l

-- lists of exactly 32, 32, 224, 96, 330 and 32 items
unfoldable pub full_by : ℕ → ℕ → ℕ → ℕ → ℕ → ℕ → Bool
full_by parents kinds origins axes links rotors = ((eqb parents 32 && eqb kinds 32) && (eqb origins 224 && eqb axes 96)) && (eqb links 330 && eqb rotors 32)

unfoldable pub lendable : Numbers → Bool
lendable h =
    full_by (length h.parents) (length h.kinds) (length h.origins) (length h.axes) (length h.links) (length h.rotors)
    && (all_bytes h.parents && all_bytes h.kinds)

-- the numbers as they stand
abbrev pub lent_model : Numbers → Model
lent_model h = record { n = h.n; parents = h.parents; kinds = h.kinds; origins = h.origins; axes = h.axes; links = h.links; rotors = h.rotors }

-- what `lent_model` answers: the numbers as they stand, if they can be lent
unfoldable pub lent_by : Numbers → Option Model
lent_by h = cond (lendable h) (Some (lent_model h)) None

-- numbers as bytes
unfoldable pub bytes_by : List ℕ → Option (List ℕ)
bytes_by l = cond (all_bytes l) (Some l) None
