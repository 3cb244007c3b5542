-- The request `stands`, of the words behind the first. Assumes nothing.
use Rattle.std.specs.Prelude.{Bool, true, false, cond, ◌&&◌, ◌||◌, List, [], ◌∷◌, ℕ, suc, eqb, ltb, Ok, Err, codes}
use Rattle.numbers.specs.Table.{tab}
use Rattle.refusals.specs.Refusals.{Verdict}
use Rattle.words.specs.Read.{Reader, give, fail, ◌>>=◌, ◌>>◌, end}
use Rattle.words.specs.List.{numbers}
use Rattle.std.specs.List.{concat, list_all}
use Rattle.words.specs.Write.{mark_text, list_text}
use Rattle.arm.specs.declared.model.Model.{Model}
use Rattle.standing.specs.Standing.{changes, marks_room, stands_call}
use Rattle.standing.specs.declared.changes.Changes.{Changes}
use Rattle.readings.specs.Read.{flag}
use Rattle.replies.specs.Replies.{refused_text}

-- ---- a LIST of links or of joints

-- x is one of them
unfoldable pub listed : List ℕ → ℕ → Bool
listed [] x = false
listed (y ∷ l) x = eqb y x || listed l x

abbrev pub all_below : ℕ → List ℕ → Bool
all_below limit l = list_all (λ y. ltb y limit) l

-- numbers below a limit, as a flag for each number below the size
unfoldable pub named : ℕ → ℕ → Reader (List Bool)
named limit size = do
  l ← numbers
  cond (all_below limit l) (give (tab (listed l) size)) fail

-- ---- the answer

abbrev pub stands_text : Verdict → List Bool → List ℕ
stands_text (Ok u) marks = concat (codes "stands " ∷ list_text mark_text marks ∷ codes "\n" ∷ [])
stands_text (Err r) marks = concat (refused_text r ∷ codes "\n" ∷ [])

-- on marks that are lent as false, one for each entry
abbrev pub stands_line : Model → Bool → Changes → List ℕ
stands_line m floating c =
    let made = stands_call floating m.n m.parents m.kinds c (tab (λ t. false) (marks_room floating m.n m.parents m.kinds)) in
    stands_text made.0 made.1

-- ROOT LINKS FRAMES AXES ROTORS, of n joints: whether the root floats, and what is not what it was
unfoldable pub told : ℕ → Reader (Bool × Changes)
told n = do
  floating ← flag
  links ← named (suc n) 33
  frames ← named n 32
  axes ← named n 32
  rotors ← named n 32
  end
  give (floating, changes links frames axes rotors)

unfoldable pub stands_request : Model → Reader (List ℕ)
stands_request m = do
  t ← told m.n
  give (stands_line m t.0 t.1)
