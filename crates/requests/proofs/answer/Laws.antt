-- The answer of a request that keeps the current model. Assumes nothing.
use mathlib.Core.Path.{◌≡◌}
use mathlib.Core.List.{List, ◌++◌}
use Prim.Native.Nat.{ℕ}
use Rattle.std.proofs.Common.{Option, Some, None}
use Rattle.words.specs.Read.{give, go_on}
use Rattle.arm.specs.declared.model.Model.{Model}
use Rattle.replies.specs.Replies.{text_of, reply_of, behind}

-- of its text alone
pub kept : (m : Model) (o : List ℕ) (x : Option (List ℕ × List (List ℕ))) {q : List ℕ} → q ≡ o ++ text_of x → (q, m) ≡ behind o (reply_of m (go_on x (λ t. give (t, m))))
kept m o None e = rw e
kept m o (Some p) e = rw e
