-- Where the input is cut into blocks does not matter: `blocks`. Assumes nothing.
use mathlib.Core.Path.{◌≡◌, refl}
use mathlib.Core.Bool.{Bool, true, false}
use mathlib.Core.List.{List, [], ◌∷◌, ◌++◌, append_assoc}
use Prim.Native.Nat.{ℕ}
use Rattle.words.specs.Line.{in_line, line_step}
use Rattle.arm.specs.Model.{empty_model}
use Rattle.desk.specs.Block.{State, new_line, end_of, answers_of, left_of, output_of}

abbrev pub Cuts : State → List ℕ → List ℕ → Type 0
Cuts s a b = (answers_of s (a ++ b) ≡ answers_of s a ++ answers_of (left_of s a) b) × (left_of s (a ++ b) ≡ left_of (left_of s a) b)

pub cuts : (s : State) (a b : List ℕ) → Cuts s a b
unfolding answers_of left_of
cuts s [] b = (refl, refl)
cuts s (x ∷ a) b = go (in_line x) refl (cuts (s.0, line_step s.1 x) a b) (cuts (new_line (end_of s).1) a b)
  where
    go : (q : Bool) → in_line x ≡ q → Cuts (s.0, line_step s.1 x) a b → Cuts (new_line (end_of s).1) a b → Cuts s (x ∷ a) b
    go true e r t = rw e r
    go false e r t = rw e (rw (t.0, append_assoc), t.1)

-- a and then b are answered as both in one piece
pub blocks : (a b : List ℕ)
    → output_of (a ++ b)
    ≡ answers_of (new_line empty_model) a
    ++ (answers_of (left_of (new_line empty_model) a) b ++ (end_of (left_of (left_of (new_line empty_model) a) b)).0)
unfolding output_of
blocks a b = let w = cuts (new_line empty_model) a b in rw (w.0, w.1, append_assoc)
