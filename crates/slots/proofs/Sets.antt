-- A list that is another but for some parts, put together from its stores. Assumes nothing.
use mathlib.Core.Bool.{Bool, true, false, cond}
use mathlib.Core.List.{List, [], ◌∷◌, ◌++◌}
use mathlib.Core.Path.{refl, ◌∙◌}
use Prim.Native.Nat.{ℕ}
use lib.Ieee.{Float}
use Rattle.slots.specs.Parts.{Part, part, Clear, Sets}
use Rattle.slots.proofs.Blocks.{Outside}

clear_first : (some more : List Part) (i : ℕ) → Clear (some ++ more) i → Clear some i
unfolding Clear
clear_first [] more i c = tt
clear_first (p ∷ some) more i c = (c.0, clear_first some more i c.1)

clear-rest : (some more : List Part) (i : ℕ) → Clear (some ++ more) i → Clear more i
unfolding Clear
clear-rest [] more i c = c
clear-rest (p ∷ some) more i c = clear-rest some more i c.1

-- nothing, the first part, a later one
pub none : {parts : List Part} (s : List Float) → Sets parts s s
none s = record { kept = λ i c. refl }

pub here : {at l : ℕ} {more : List Part} {s t : List Float} → Outside at l s t → Sets (part at l ∷ more) s t
unfolding Clear
here f = record { kept = λ i c. f.kept i c.0 }

pub there : {p : Part} {more : List Part} {s t : List Float} → Sets more s t → Sets (p ∷ more) s t
unfolding Clear
there f = record { kept = λ i c. f.kept i c.1 }

-- one after another, of the same parts, and of some and then more
pub then : {parts : List Part} {s t u : List Float} → Sets parts s t → Sets parts t u → Sets parts s u
then f g = record { kept = λ i c. g.kept i c ∙ f.kept i c }

pub row : (some more : List Part) {s t u : List Float} → Sets some s t → Sets more t u → Sets (some ++ more) s u
row some more f g = record { kept = λ i c. g.kept i (clear-rest some more i c) ∙ f.kept i (clear_first some more i c) }

-- a choice, of the same parts, and of the parts of each way
pub choice : {S : Type 0} (f : S → List Float) (b : Bool) {x y : S} {parts : List Part} {s : List Float} → Sets parts s (f x) → Sets parts s (f y) → Sets parts s (f (cond b x y))
choice f true d e = d
choice f false d e = e

pub way : {S : Type 0} (f : S → List Float) (b : Bool) {x y : S} {some more : List Part} {s : List Float} → Sets some s (f x) → Sets more s (f y) → Sets (cond b some more) s (f (cond b x y))
way f true d e = d
way f false d e = e
