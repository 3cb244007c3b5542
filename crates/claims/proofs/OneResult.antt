-- The contract of each public call allows one result, in the answer and in every number lent to be written. Assumes nothing.
use mathlib.Core.Bool.{Bool}
use mathlib.Core.List.{List}
use mathlib.Core.Path.{◌≡◌, sym, ap, ◌∙◌}
use lib.Ieee.{Float}
use Rattle.refusals.specs.Refusals.{Verdict}
use Rattle.calls.specs.Position.{Result}
use Rattle.calls.specs.declared.position.Answer.{Answer}
use Rattle.calls.specs.declared.position.Outcome.{Outcome}
use Rattle.square_root.proofs.sqrt.Reads as sqrt
use Rattle.half_turn.proofs.half_turn.Reads as half-turn
use Rattle.builder.proofs.build.build.Reads as build
use Rattle.mass_matrix.proofs.column.column.Reads as column
use Rattle.dynamics.proofs.start.Reads as start
use Rattle.dynamics.proofs.portion.Reads as portion
use Rattle.dynamics.proofs.whole.Reads as whole
use Rattle.plain_matrix.proofs.plain_matrix.Reads as plain-matrix
use Rattle.standing.proofs.marks_room.Reads as marks-room
use Rattle.standing.proofs.stands.Reads as stands
use Rattle.claims.specs.OneResult.{OneResult}

-- what equals one thing is one
one-result : {A : Type 0} {x y z : A} → x ≡ z → y ≡ z → x ≡ y
one-result d e = d ∙ sym e

-- the contract's first part, `root_of`, determines the answer; that its second alone would is `one_answer` of `square_root`
pub sqrt-one : OneResult sqrt.Post (λ κs r e. r)
sqrt-one κs a r s e f d h = one-result d.0 h.0

pub half-turn-one : OneResult half-turn.Post (λ κs r e. r)
half-turn-one κs a r s e f d h = one-result d.0 h.0

pub build-one : OneResult build.Post (λ κs r e. r)
build-one κs a r s e f = one-result

-- the numbers of the part that is answered
pub column-one : OneResult column.Post (λ κs r e. r.now)
column-one κs a r s e f = one-result

-- ---- the answer and the workspace of a start, and those and the output of the other calls: what they are lent last, a budget aside

abbrev and-workspace : Result → Answer × List Float
and-workspace x = (x.0, x.1)

pub start-one : OneResult {S = Answer × List Float} start.Post (λ κs r e. (r, e.1.1.1.0.now))
start-one κs a r s e f d h = ap and-workspace (one-result d h)

pub portion-one : OneResult {S = Result} portion.Post (λ κs r e. (r, e.1.1.1.1.0.now, e.1.1.1.1.1.0.now))
portion-one κs a r s e f = one-result

pub whole-one : OneResult {S = Result} whole.Post (λ κs r e. (r, e.1.1.1.0.now, e.1.1.1.1.0.now))
whole-one κs a r s e f = one-result

-- the outcome and the output of the plain matrix
pub plain-matrix-one : OneResult {S = Outcome × List Float} plain-matrix.Post (λ κs r e. (r, e.1.1.1.0.now))
plain-matrix-one κs a r s e f = one-result

-- how many marks there are, and the verdict and the marks
pub marks-room-one : OneResult marks-room.Post (λ κs r e. r)
marks-room-one κs a r s e f d h = one-result d.0 h.0

pub stands-one : OneResult {S = Verdict × List Bool} stands.Post (λ κs r e. (r, e.1.1.1.0.now))
stands-one κs a r s e f = one-result
