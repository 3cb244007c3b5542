-- `square_root::sqrt` meets its contract: each test leads to the case of `root_of`, and `root_of` is the answer that `RootIs` asks for. Assumes nothing.
use mathlib.Core.Path.{◌≡◌, refl, sym, ap, ◌∙◌, subst}
use mathlib.Core.Logic.{⊎_elim}
use mathlib.Core.Bool.{false, not}
use Prim.Native.Nat.{ℕ, ◌*◌, ◌^◌}
use lib.Dec.{T}
use lib.Ieee.{Float, inf, binary64, fits, to_bits, of_bits, nan_bits}
use lib.Ieee.Bits.{of_bits-to_bits}
use lib.Ieee.Positive.{positive}
use Rattle.std.specs.Prelude.{Option, Some, None}
use Rattle.square_root.specs.SquareRoot.{RootIs, root_of, pattern_of, mag}
use Rattle.square_root.proofs.Answer.{root_is, nan-case, zero-case, minus-case, left_over, inf-is, bits_of, X-is, parts-of, written, root-above}
use Rattle.square_root.proofs.sqrt.Goals as goal
use Rattle.square_root.proofs.sqrt.Goals.{After-pattern, Else-b-eq9218868437227405312, Start, then-is_nan-via-then-is_nan, then-is_nan-via-else-is_nan+then-x, then-x-2-via-then-x-2, then-x-2-via-else-x-2+then-b-eq9218868437227405312}

-- what owning an `f64` tells: the format holds it
holds : (c : Start) → T (fits binary64 c.args.x)
holds c = subst T (sym c.well_formed.0.1) tt

-- an answer that is `root_of`'s is right
answer : (x : Float) (a : Option Float) → T (fits binary64 x) → root_of x ≡ a → (a ≡ root_of x) × RootIs x a
answer x a f e = (sym e, subst (λ (r : Option Float). RootIs x r) e (root_is x f))

pub returns-then-is_nan : goal.returns-then-is_nan
returns-then-is_nan c =
    answer c.args.x None (holds (goal.at.returns-then-is_nan c).Start)
    (elim c.then-is_nan.branch [ then-is_nan-via-then-is_nan w ↦ nan-case c.args.x (sym w.if-is_nan.ensures.value) | then-is_nan-via-else-is_nan+then-x w ↦ minus-case c.args.x w.if-x.true ])

inf-case : (x : Float) → T (fits binary64 x) → to_bits binary64 x ≡ 9218868437227405312 → root_of x ≡ Some x
unfolding root_of
inf-case x f h = let e : x ≡ inf false = sym (of_bits-to_bits binary64 x f) ∙ ap (of_bits binary64) h ∙ inf-is in ap root_of e ∙ ap Some (sym e)

inf_bits : to_bits binary64 (inf false) ≡ 9218868437227405312
unfolding to_bits
inf_bits = refl

pub returns-then-x-2 : goal.returns-then-x-2
returns-then-x-2 c =
    let f = holds (goal.at.returns-then-x-2 c).Start in
    answer c.args.x (Some c.args.x) f
    (elim c.then-x-2.branch [ then-x-2-via-then-x-2 w ↦ zero-case c.args.x w.if-x-2.true | then-x-2-via-else-x-2+then-b-eq9218868437227405312 w ↦ inf-case c.args.x f w.if-b-eq9218868437227405312.true ])

-- past the tests x is above zero
above : (c : Else-b-eq9218868437227405312) → T (positive c.args.x)
above c = ⊎_elim (λ e. absurd (c.if-b-eq9218868437227405312.false (ap (to_bits binary64) e ∙ inf_bits))) (λ p. p) (left_over c.args.x (sym c.if-is_nan.ensures.value) c.if-x-2.false c.if-x.false)

pub pattern-requires : goal.pattern-requires
pattern-requires c = bits_of c.args.x (holds (goal.at.pattern-requires c).Start) (above (goal.at.pattern-requires c).Else-b-eq9218868437227405312)

-- the pattern, of mag x
same : (c : After-pattern) → c.pattern.result ≡ pattern_of (mag c.args.x * 2 ^ 1074)
same c = c.pattern.ensures ∙ ap pattern_of (sym (X-is c.args.x (holds (goal.at.returns c).Start) (above (goal.at.returns c).Else-b-eq9218868437227405312)))

pub float_from_bits-result : goal.float_from_bits-result
float_from_bits-result c =
    subst (λ (b : ℕ). T (not (nan_bits binary64 b))) (sym (same (goal.at.float_from_bits-result c).After-pattern)) (written (mag c.args.x * 2 ^ 1074) (parts-of c.args.x (holds (goal.at.float_from_bits-result c).Start) (above (goal.at.float_from_bits-result c).Else-b-eq9218868437227405312)))

pub returns : goal.returns
returns c =
    answer c.args.x (Some (of_bits binary64 c.pattern.result)) (holds (goal.at.returns c).Start)
    (root-above c.args.x (above (goal.at.returns c).Else-b-eq9218868437227405312) ∙ ap (λ (b : ℕ). Some (of_bits binary64 b)) (sym (same (goal.at.returns c).After-pattern)))
