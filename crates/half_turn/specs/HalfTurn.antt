-- Sine and cosine of half an angle, from the power series, in doubles (document 01, "Number rules"; document 02, item 6). Definitions only.
use Rattle.std.specs.Prelude.{List, [], ◌∷◌, Bool, true, false, not, cond, ◌&&◌, ◌≡◌, ℕ, zero, suc, ◌+◌, ◌-◌, ◌*◌, ◌%◌, ℤ, pos, negsuc, neg_ℤ, eqb, ltb, Option, Some, None}
use lib.Ieee.{Float, nan, inf, fin, binary64, round, neg, le, up, down, of_int}
use Rattle.std.specs.Float.Ieee.Nearest.{closest}
use Rattle.numbers.specs.Double.{◌⊕◌, ◌⊖◌, ◌⊗◌, bits, 0·5, 1·0}
use Rattle.half_turn.specs.declared.Turns.{Turns}
use Rattle.half_turn.specs.declared.SinCos.{SinCos}

-- ---- the whole number nearest a double, ties to even

-- finite, and below 2 ^ 31 in size
abbrev pub small : Float → Bool
small nan = false
small (inf s) = false
small (fin s m e) = ltb (m * up e) (2147483648 * down e)

-- `closest a b` is a / b rounded to the nearest whole number, a tie to the even one (lib.Ieee.Nearest); fin s m e is m * up e / down e in size
unfoldable pub whole_of : Float → ℤ
whole_of nan = pos 0
whole_of (inf s) = pos 0
whole_of (fin true m e) = neg_ℤ (pos (closest (m * up e) (down e)))
whole_of (fin false m e) = pos (closest (m * up e) (down e))

-- n modulo 4, never negative
unfoldable pub quarter_of : ℤ → ℕ
quarter_of (pos n) = n % 4
quarter_of (negsuc k) = 3 - k % 4

-- the whole number as a double (0 is +0.0), and modulo 4
unfoldable pub turns_of : Float → Turns
unfolding whole_of quarter_of
turns_of x = record { whole = of_int binary64 (whole_of x); quarter = quarter_of (whole_of x) }

-- ---- the two series

unfoldable pub factorial : ℕ → ℕ
factorial zero = 1
factorial (suc k) = suc k * factorial k

-- The first n coefficients from 1 / k! on, in steps of two, each rounded once, signs alternating from s (true is minus): one rule for both series.
unfoldable pub coefficients : ℕ → Bool → ℕ → List Float
unfolding factorial
coefficients zero s k = []
coefficients (suc n) s k = round binary64 s 1 (factorial k) ∷ coefficients n (not s) (2 + k)

-- s3, s5, .., s17 and c2, c4, .., c16
unfoldable pub sin_list : List Float
unfolding coefficients
sin_list = coefficients 8 true 3

unfoldable pub cos_list : List Float
unfolding coefficients
cos_list = coefficients 8 true 2

-- c0 + z × (c1 + z × (c2 + ..)), the last one bare
unfoldable pub horner_of : List Float → Float → Float
horner_of [] z = nan
horner_of (c ∷ []) z = c
horner_of (c ∷ d ∷ cs) z = c ⊕ z ⊗ horner_of (d ∷ cs) z

-- S = r + (r×z)×(s3 + ..) and C = 1 + z×(c2 + ..) of the reduced angle r
unfoldable pub series_of : Float → SinCos
series_of r = let z = r ⊗ r in record { sin = r ⊕ (r ⊗ z) ⊗ horner_of sin_list z; cos = 1·0 ⊕ z ⊗ horner_of cos_list z }

-- (S, C), (C, -S), (-S, -C), (-C, S) by the quarter
unfoldable pub placed_of : SinCos → ℕ → SinCos
placed_of v n =
    cond (eqb n 0) v
    (cond (eqb n 1) (record { sin = v.cos; cos = neg v.sin })
    (cond (eqb n 2) (record { sin = neg v.sin; cos = neg v.cos })
    (record { sin = neg v.cos; cos = v.sin })))

-- ---- the angle

abbrev pub K : Float
K = bits 0x3FE45F306DC9C883

abbrev pub P1 : Float
P1 = bits 0x3FF921FB54400000

abbrev pub P2 : Float
P2 = bits 0x3DD0B4611A626331

-- P2 cut short, and what was cut off with more behind it (document 02, item 6)
abbrev pub P2' : Float
P2' = bits 0x3DD0B4611A600000

abbrev pub P3 : Float
P3 = bits 0x3BA3198A2E037073

-- half the angle less n quarter turns, in document 01's two steps and in document 02's three
unfoldable pub two_steps_of : Float → Float → Float
two_steps_of h n = (h ⊖ n ⊗ P1) ⊖ n ⊗ P2

unfoldable pub three_steps_of : Float → Float → Float
three_steps_of h n = ((h ⊖ n ⊗ P1) ⊖ n ⊗ P2') ⊖ n ⊗ P3

-- ---- its limits

-- up to here in size two steps, beyond it three
abbrev pub two_step_limit : ℕ
two_step_limit = 1024

-- beyond this size "out of range"
abbrev pub turn_limit : ℕ
turn_limit = 1048576

-- the whole number as a double
abbrev pub of_nat : ℕ → Float
of_nat n = of_int binary64 (pos n)

-- no NaN, and not beyond b in size
abbrev pub within : Float → Float → Bool
within b q = le q b && le (neg b) q

abbrev pub in_range : Float → Bool
in_range q = within (of_nat turn_limit) q

-- ---- the routine

-- h is half of q
unfoldable pub reduced_of : Float → Float → Float → Float
unfolding two_steps_of three_steps_of
reduced_of q h n = cond (within (of_nat two_step_limit) q) (two_steps_of h n) (three_steps_of h n)

-- sine and cosine of h = q × 0.5, by a rule that reduces h
unfoldable pub sin_cos_by : (Float → Float → Float) → Float → SinCos
unfolding series_of placed_of whole_of quarter_of
sin_cos_by reduce q =
    let h = q ⊗ 0·5 in
    let n = whole_of (h ⊗ K) in
    placed_of (series_of (reduce h (of_int binary64 n))) (quarter_of n)

unfoldable pub sin_cos_of : Float → SinCos
unfolding sin_cos_by reduced_of
sin_cos_of q = sin_cos_by (reduced_of q) q

unfoldable pub half_turn_of : Float → Option SinCos
unfolding sin_cos_of
half_turn_of q = cond (in_range q) (Some (sin_cos_of q)) None

-- what each answer says of q: these are its sine and cosine, or q is "out of range"
unfoldable pub HalfTurnIs : Float → Option SinCos → Type 0
HalfTurnIs q (Some v) = (in_range q ≡ true) × (v ≡ sin_cos_of q)
HalfTurnIs q None = in_range q ≡ false

-- ---- document 01's half turn, kept for the law that its answers stand (proofs/Kept.antt): two steps for every angle, and a limit of 1024
unfoldable pub first_half_turn_of : Float → Option SinCos
unfolding sin_cos_by two_steps_of
first_half_turn_of q = cond (within (of_nat two_step_limit) q) (Some (sin_cos_by two_steps_of q)) None
