-- One line of a block, over plain lists. Assumes nothing.
use mathlib.Core.Path.{◌≡◌, refl, ap, ◌∙◌}
use mathlib.Core.Bool.{Bool, true, false}
use mathlib.Core.List.{List, [], ◌∷◌, ◌++◌, append_assoc}
use Prim.Native.Nat.{ℕ, suc, ◌+◌, ◌≤◌, ◌<◌}
use native.Mathlib.Numerals.{one-add}
use native.Mathlib.Omega.{arith}
use lib.ListN.{length, drop, length-drop, drop_of_length-le}
use lib.Seq.{drop-drop}
use Rattle.words.specs.Line.{in_line, line_step, line_of, before_of}
use Rattle.arm.specs.declared.model.Model.{Model}
use Rattle.replies.specs.Replies.{behind}
use Rattle.desk.specs.declared.block.Stand.{Stand}
use Rattle.desk.specs.Block.{State, new_line, end_of, answers_of, left_of, Moved}

-- ---- from a line's first byte on: it ends in the bytes, or not

-- with the line's bytes gathered
abbrev gathered : State → List ℕ → State
gathered s l = (s.0, line_of s.1 l)

Ends : State → List ℕ → Type 0
Ends s l =
    let e = end_of (gathered s l) in
    let rest = drop (suc (before_of l)) l in
    (answers_of s l ≡ e.0 ++ answers_of (new_line e.1) rest) × (left_of s l ≡ left_of (new_line e.1) rest)

ends : (s : State) (l : List ℕ) → before_of l < length l → Ends s l
unfolding Ends answers_of left_of line_of
ends s [] h = absurd (omega arith)
ends s (b ∷ l) h = go (in_line b) refl (ends (s.0, line_step s.1 b) l)
  where
    go : (q : Bool) → in_line b ≡ q → (before_of l < length l → Ends (s.0, line_step s.1 b) l) → Ends s (b ∷ l)
    go true e r = rw (e, one-add) (r (omega (arith, rw e at h)))
    go false e r = rw e (refl, refl)

Goes : State → List ℕ → Type 0
Goes s l = (answers_of s l ≡ []) × (left_of s l ≡ gathered s l)

goes : (s : State) (l : List ℕ) → length l ≤ before_of l → Goes s l
unfolding Goes answers_of left_of line_of
goes s [] h = (refl, refl)
goes s (b ∷ l) h = go (in_line b) refl (goes (s.0, line_step s.1 b) l)
  where
    go : (q : Bool) → in_line b ≡ q → (length l ≤ before_of l → Goes (s.0, line_step s.1 b) l) → Goes s (b ∷ l)
    go true e r = rw e (r (omega (arith, rw e at h)))
    go false e r = absurd (omega (arith, rw e at h))

-- ---- at a place i of a block: m is the model, t the line so far, u the line gathered, o the answers so far
module _ (block : List ℕ) (i next : ℕ) (m : Model) (t u : List ℕ × Bool) (o : List ℕ) (n : next ≡ i + before_of (drop i block)) (g : u ≡ line_of t (drop i block)) where
  pub line-moved : {q : List ℕ} {k : Model} → next < length block → (q, k) ≡ behind o (end_of (m, u))
      → (q ++ answers_of (new_line k) (drop (next + 1) block) ≡ o ++ answers_of (m, t) (drop i block))
      × (left_of (new_line k) (drop (next + 1) block) ≡ left_of (m, t) (drop i block))
  unfolding Ends
  line-moved h e =
      let j = before_of (drop i block) in
      let f : i + suc j ≡ next + 1 = omega arith in
      let d : drop (suc j) (drop i block) ≡ drop (next + 1) block = drop-drop (suc j) i block ∙ rw f in
      let w = ends (m, t) (drop i block) (omega (arith, length-drop i block)) in
      let x = ap (λ (p : List ℕ × Model). p.0) e in
      let y = ap (λ (p : List ℕ × Model). p.1) e in
      (rw (x, y, g, w.0, d) (append_assoc o _ _), rw (y, g, w.1, d))

  pub part_moved : i ≤ length block → length block ≤ next
      → (o ++ answers_of (m, u) (drop next block) ≡ o ++ answers_of (m, t) (drop i block)) × (left_of (m, u) (drop next block) ≡ left_of (m, t) (drop i block))
  unfolding Goes answers_of left_of
  part_moved a h =
      let w = goes (m, t) (drop i block) (omega (arith, length-drop i block)) in
      (rw (drop_of_length-le block h, w.0), rw (drop_of_length-le block h, w.1, g))

pub moved_on : (block : List ℕ) (s r q : Stand) {line out line' out' line'' out'' : List ℕ}
    → Moved block s line out r line' out' → Moved block r line' out' q line'' out'' → Moved block s line out q line'' out''
moved_on block s r q x y = record { answers = y.answers ∙ x.answers; left = y.left ∙ x.left }
