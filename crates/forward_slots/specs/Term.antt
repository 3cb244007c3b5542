-- An active joint's terms in the workspace: U, D and the joint bias. Definitions only.
use Rattle.std.specs.Prelude.{List, ℕ, ◌+◌, get_or, set, Float}
use Rattle.std.specs.Float.{nan}
use Rattle.slots.specs.Slots.{wrench_at, put_wrench}
use Rattle.articulated.specs.declared.second.Term.{Term}

unfoldable pub term_at : List Float → ℕ → Term
term_at s at = record { u = wrench_at s at; d = get_or s (at + 6) nan; bias = get_or s (at + 7) nan }

unfoldable pub put_term : List Float → ℕ → Term → List Float
put_term s at t = set (set (put_wrench s at t.u) (at + 6) t.d) (at + 7) t.bias
