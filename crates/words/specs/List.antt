-- Lists of items. Assumes nothing.
use Rattle.std.specs.Prelude.{ℕ, zero, suc, ◌≤◌, cond, List, [], ◌∷◌, length, take, ltb, Float, Option, option_map, IfSome}
use Rattle.std.specs.Float.{binary64}
use Rattle.std.specs.Float.Ieee.{of_bits}
use Rattle.words.specs.Read.{Reader, give, fail, ◌>>=◌, number, ReadBy}

-- n numbers, each put through f
unfoldable pub items : {A : Type 0} → (ℕ → A) → ℕ → Reader (List A)
items f zero = give []
items f (suc n) = do
  v ← number
  l ← items f n
  give (f v ∷ l)

-- how many items a list has: at most 4,096
unfoldable pub size : Reader ℕ
size = do
  n ← number
  cond (ltb 4096 n) fail (give n)

-- A LIST: its size, then that many numbers
unfoldable pub list : {A : Type 0} → (ℕ → A) → Reader (List A)
list f = do
  n ← size
  items f n

abbrev pub numbers : Reader (List ℕ)
numbers = list (λ v. v)

-- an item of a list of doubles is a pattern
abbrev pub doubles : Reader (List Float)
doubles = list (of_bits binary64)

-- what a function has read into the list l: its first items, and how many
abbrev pub ListBy : {A : Type 0} → Reader (List A) → List (List ℕ) → List A → Option ℕ → List (List ℕ) → Type 0
ListBy reader before l r behind = ReadBy reader before (option_map (λ k. take k l) r) behind × IfSome r (λ k. k ≤ length l)
