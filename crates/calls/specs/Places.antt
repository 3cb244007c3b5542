-- The places of the workspace that each visit of a calculation sets (document 01, "Visits"). Definitions only.
use Rattle.std.specs.Prelude.{List, ℕ, ◌≤◌, ◌<◌, Float}
use Rattle.slots.specs.Parts.{Part, Clear, Sets}
use Rattle.calls.specs.Position.{Work}

-- the places that each visit sets
abbrev pub Table : Type 0
Table = ℕ → List Part

-- a visit changes no number but those of its places
pub record Tabled (w : Work) (table : Table) : Type 0 where
  pub sets : (k : ℕ) (ws : List Float) → Sets (table k) ws (w.visit k ws).1

-- no visit from k on and before l sets place i
abbrev pub Rests : Table → ℕ → ℕ → ℕ → Type 0
Rests table i k l = (v : ℕ) → k ≤ v → v < l → Clear (table v) i
