-- Parts of a list of numbers. Definitions only.
use Rattle.std.specs.Prelude.{List, [], ◌∷◌, ◌≡◌, ℕ, ◌+◌, ◌≤◌, ◌<◌, get_or, Float}
use Prim.{Unit}
use Rattle.std.specs.Float.{nan}

-- `count` numbers from `from` on
pub record Part : Type 0 where
  pub from : ℕ
  pub count : ℕ

abbrev pub part : ℕ → ℕ → Part
part from count = record { from = from; count = count }

-- place i lies in none of the parts
unfoldable pub Clear : List Part → ℕ → Type 0
Clear [] i = Unit {0}
Clear (p ∷ more) i = (p.from ≤ i → i < p.from + p.count → ⊥) × Clear more i

-- t is s but for the parts: every other number keeps its bits
pub record Sets (parts : List Part) (s t : List Float) : Type 0 where
  pub kept : (i : ℕ) → Clear parts i → get_or t i nan ≡ get_or s i nan
