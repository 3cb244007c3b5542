-- For readers of document 02, item 6: up to 1024 the old bits stay. Assumes nothing.
use mathlib.Core.Path.{◌≡◌, refl, sym, ◌∙◌, subst}
use Rattle.std.specs.Prelude.{Option, Some, None}
use mathlib.Core.Bool.{Bool, true, false, cond}
use native.Mathlib.Nat.{le_trans, mul-le-mul_right}
use Prim.Native.Nat.{ℕ, ◌≤◌}
use lib.Dec.{T, lit≤}
use lib.Ieee.{Float, nan, inf, fin, down}
use lib.Ieee.Bits.{is_true}
use Rattle.half_turn.specs.declared.SinCos.{SinCos}
use Rattle.half_turn.specs.HalfTurn.{two_step_limit, turn_limit, of_nat, within, in_range, two_steps_of, three_steps_of, reduced_of, sin_cos_by, sin_cos_of, half_turn_of, first_half_turn_of}
use Rattle.half_turn.proofs.Bound.{AtMost, within-at-most, at-most-within}

-- what is within a limit is within a wider one
wider : (A B : ℕ) (q : Float) → A ≤ B → AtMost A q → AtMost B q
wider A B nan l h = absurd h
wider A B (inf s) l h = absurd h
wider A B (fin s m e) l h = le_trans h (mul-le-mul_right (down e) l)

two-steps-in-range : (q : Float) → within (of_nat two_step_limit) q ≡ true → in_range q ≡ true
two-steps-in-range q e =
    is_true (in_range q) (at-most-within turn_limit q (lit≤ tt) (wider two_step_limit turn_limit q (lit≤ tt) (within-at-most two_step_limit q (lit≤ tt) (subst T (sym e) tt))))

-- up to 1024 in size the answer is the old one
pub same_bits : (q : Float) → within (of_nat two_step_limit) q ≡ true → half_turn_of q ≡ first_half_turn_of q
unfolding half_turn_of first_half_turn_of sin_cos_of sin_cos_by reduced_of
same_bits q e = rw (two-steps-in-range q e, e)

-- whatever sine and cosine the old routine gave, they are given
pub kept : (q : Float) (v : SinCos) → first_half_turn_of q ≡ Some v → half_turn_of q ≡ Some v
unfolding first_half_turn_of
kept q v e = go (within (of_nat two_step_limit) q) (same_bits q) e
  where
    Answers : Option SinCos → Type 0
    Answers (Some w) = Unit {0}
    Answers None = ⊥

    go : (b : Bool) → (b ≡ true → half_turn_of q ≡ first_half_turn_of q) → cond b (Some (sin_cos_by two_steps_of q)) None ≡ Some v → half_turn_of q ≡ Some v
    go true f g = f refl ∙ e
    go false f g = absurd (subst Answers (sym g) tt)

-- beyond 1024, and up to the limit, it is the one by three steps
pub beyond : (q : Float) → within (of_nat two_step_limit) q ≡ false → in_range q ≡ true → half_turn_of q ≡ Some (sin_cos_by three_steps_of q)
unfolding half_turn_of sin_cos_of sin_cos_by reduced_of
beyond q e h = rw (h, e)
