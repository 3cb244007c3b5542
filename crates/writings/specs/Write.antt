-- The text of a calculation's answer. Definitions only.
use Rattle.std.specs.Prelude.{Bool, not, cond, ◌&&◌, List, [], ◌∷◌, ◌++◌, ℕ, eqb, codes, Float}
use Rattle.std.specs.List.{concat, list_all}
use Rattle.std.specs.Float.{binary64}
use Rattle.std.specs.Float.Ieee.{to_bits, is_nan}
use Rattle.calls.specs.declared.position.Outcome.{Outcome}
use Rattle.calls.specs.declared.position.Outcome.TheVariants.{Open, Accepted, Refused}
use Rattle.words.specs.Write.{hex_text, double_text, list_text}
use Rattle.replies.specs.Replies.{refused_text}

-- WORD NO PLACE
abbrev pub outcome_text : Outcome → List ℕ
outcome_text Open = codes "open - -"
outcome_text Accepted = codes "accepted - -"
outcome_text (Refused r) = refused_text r

-- every number has this pattern
unfoldable pub all_are : ℕ → List Float → Bool
all_are bits l = list_all (λ x. not (is_nan x) && eqb (to_bits binary64 x) bits) l

-- WORKSPACE: every number +0.0, or still 1.0, or neither
unfoldable pub workspace_text : List Float → List ℕ
workspace_text ws = cond (all_are 0 ws) (codes "zero") (cond (all_are 4607182418800017408 ws) (codes "kept") (codes "numbers"))

-- WORD NO PLACE | COUNTS |
abbrev pub front_text : Outcome → List ℕ → List ℕ
front_text o counts = concat (outcome_text o ∷ codes " | " ∷ list_text hex_text counts ∷ codes " | " ∷ [])

-- WORKSPACE | OUTPUT
abbrev pub back_text : List Float → List Float → List ℕ
back_text ws out = concat (workspace_text ws ∷ codes " | " ∷ list_text double_text out ∷ codes "\n" ∷ [])

abbrev pub made_text : Outcome → List ℕ → List Float → List Float → List ℕ
made_text o counts ws out = front_text o counts ++ back_text ws out

-- WORD NO PLACE | OUTPUT
abbrev pub plain_text : Outcome → List Float → List ℕ
plain_text o out = concat (outcome_text o ∷ codes " | " ∷ list_text double_text out ∷ codes "\n" ∷ [])
