-- The checks of a call that both calculations make (document 01, "Refusal numbers"). Definitions only.
use Rattle.std.specs.Prelude.{Bool, not, ◌&&◌, ◌||◌, List, [], ◌∷◌, ℕ, eqb, length, Float}
use Rattle.numbers.specs.Double.{finite, all_finite}
use Rattle.half_turn.specs.HalfTurn.{in_range}
use Rattle.numbers.specs.declared.quaternion.Quaternion.{Quaternion}
use Rattle.refusals.specs.Refusals.{Verdict, lowest, named_of, plain_of, or_else}
use Rattle.arm.specs.Joint.{not_unit}
use Rattle.arm.specs.Model.{kind_of}
use Rattle.arm.specs.Topology.{actives_of, value_of}

-- joint j's value is not finite (a fixed joint's is +0.0)
unfoldable pub bad_value : List ℕ → List Float → ℕ → Bool
bad_value ks q j = not (finite (value_of ks q j))

-- 11 and 12, or 14 and 15
unfoldable pub values_verdict : ℕ → ℕ → List ℕ → ℕ → List Float → Verdict
values_verdict miscounted nonfinite ks n q = or_else (plain_of miscounted (not (eqb (length q) (actives_of ks n)))) (named_of nonfinite (lowest (bad_value ks q) n))

-- joint j turns, by a value beyond the limit
unfoldable pub far_turn : List ℕ → List Float → ℕ → Bool
far_turn ks q j = eqb (kind_of ks j) 0 && not (in_range (value_of ks q j))

-- 13
unfoldable pub turns_verdict : List ℕ → ℕ → List Float → Verdict
turns_verdict ks n q = named_of 13 (lowest (far_turn ks q) n)

-- a root rotation that is not finite, or as in 7
unfoldable pub bad_rotation : Quaternion → Bool
bad_rotation r = not (all_finite (r.w ∷ r.u.x ∷ r.u.y ∷ r.u.z ∷ [])) || not_unit r
