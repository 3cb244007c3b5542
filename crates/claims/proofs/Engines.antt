-- THE TWO ENGINES by their contracts: asked for the same matrix, the fast call and the plain one give equal bits in every number of the output, or the same refusal,
-- 10 excepted (document 02, item 10). Assumes nothing.
use mathlib.Core.List.{List}
use mathlib.Core.Path.{◌≡◌, sym, ap, ◌∙◌}
use lib.Ieee.{Float}
use Rattle.std.specs.Prelude.{None}
use Rattle.refusals.specs.Refusals.{refusal}
use Rattle.arm.specs.declared.model.Model.{Model}
use Rattle.calls.specs.Position.{Result, whole_of}
use Rattle.calls.specs.declared.position.Outcome.{Outcome}
use Rattle.calls.specs.declared.position.Outcome.TheVariants.{Refused}
use Rattle.forward_visits.specs.Inputs.{Inputs}
use Rattle.mass_matrix.specs.MassMatrix.{mass_matrix}
use Rattle.mass_matrix.specs.declared.mass_matrix.Mode.{Mode}
use Rattle.dynamics.specs.Calculation.{work_of}
use Rattle.dynamics.specs.declared.calculation.Calculation.{Calculation}
use Rattle.dynamics.specs.declared.calculation.Calculation.TheVariants.{Matrix}
use Rattle.dynamics.proofs.whole.Reads as whole
use Rattle.plain_matrix.specs.PlainMatrix.{plain_call}
use Rattle.plain_matrix.proofs.Equal.{seen, same-but-10}
use Rattle.plain_matrix.proofs.plain_matrix.Reads as plain
use Rattle.claims.specs.Engines.{SameAnswer}

-- what is asked: the calculation, the model, q, and the output's numbers
abbrev pub Question : Type 0
Question = Calculation × Model × List Float × List Float

module _ (mode : Mode) (m m' : Model) (q q' ws out out' : List Float) where
  joined : m ≡ m' → q ≡ q' → out ≡ out' → {x : Result} → x ≡ whole_of (mass_matrix mode m q) ws out → {y : Outcome × List Float} → y ≡ plain_call mode m' q' out'
      → (x.0.outcome ≡ Refused (refusal 10 None) → ⊥) → seen x ≡ y
  joined em eq eo ex ey f =
      ap seen ex
      ∙ same-but-10 mode m q ws out (λ z. f (ap (λ (x : Result). x.0.outcome) ex ∙ ap (λ (s : Outcome × List Float). s.0) z))
      ∙ (λ k. plain_call mode (em k) (eq k) (eo k)) ∙ sym ey

pub as-matrix : (c : Calculation) (mode : Mode) (m : Model) (i : Inputs) (ws out : List Float) → c ≡ Matrix mode → whole_of (work_of c m i) ws out ≡ whole_of (mass_matrix mode m i.q) ws out
as-matrix c mode m i ws out e = ap (λ (c : Calculation). whole_of (work_of c m i) ws out) e

pub engines-agree : SameAnswer {T = Question} {S = Outcome × List Float} whole.Post plain.Post
    (λ κs a. (a.0, a.1.0.now, a.1.1.0.now.q.now, a.1.1.1.1.0.now))
    (λ κs b. (Matrix b.0, b.1.0.now, b.1.1.0.now, b.1.1.1.0.now))
    (λ κs r e. (r.outcome, e.1.1.1.1.0.now))
    (λ κs r e. (r, e.1.1.1.0.now))
    (λ s. s.0 ≡ Refused (refusal 10 None))
engines-agree κs λs a b r q e f asked d h =
    joined b.0 _ _ _ _ _ _ _ (ap (λ (x : Question). x.1) asked) (ap (λ (x : Question). x.2) asked) (ap (λ (x : Question). x.3) asked)
    (d ∙ as-matrix a.0 b.0 _ _ _ _ (ap (λ (x : Question). x.0) asked)) h
