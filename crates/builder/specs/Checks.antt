-- The builder's checks (document 01, "Refusal numbers" 1 to 7; document 02, item 9, refusal 8, and item 11, refusal 26). Definitions only.
use Rattle.std.specs.Prelude.{Bool, true, false, not, ◌&&◌, ◌||◌, Option, Some, None, List, ◌≡◌, ℕ, ◌+◌, ◌*◌, ◌≤◌, eqb, ltb, length, take, drop, Float}
use Rattle.std.specs.Float.Ieee.{lt}
use Rattle.numbers.specs.Double.{0·0, finite, all_finite}
use Rattle.numbers.specs.declared.vec3.Vec3.{Vec3}
use Rattle.refusals.specs.Refusals.{Verdict, lowest, named_of, plain_of, or_else}
use Rattle.slots.specs.Slots.{vec3_at, frame_at}
use Rattle.arm.specs.Joint.{is_fixed, not_unit}
use Rattle.builder.specs.Axis.{kept_axis}
use Rattle.arm.specs.Model.{kind_of, rotor_of, link_of, bad_parent, bad_kind}

-- ---- one test each; those of 3 and 4 are the model's

-- 2: the lengths that n joints and n + 1 links want
unfoldable pub sized_by : ℕ → ℕ → ℕ → ℕ → ℕ → ℕ → ℕ → Bool
sized_by n parents kinds origins axes links rotors = eqb parents n && eqb kinds n && eqb origins (n * 7) && eqb axes (n * 3) && eqb links ((n + 1) * 10) && eqb rotors n

-- the axis that joint j keeps
unfoldable pub axis_of : List ℕ → List Float → ℕ → Option Vec3
axis_of kinds axes j = kept_axis (kind_of kinds j) (vec3_at axes (j * 3))

-- 5: the axis rule
abbrev pub refused : Option Vec3 → Bool
refused (Some v) = false
refused None = true

unfoldable pub bad_axis : List ℕ → List Float → ℕ → Bool
bad_axis kinds axes j = refused (axis_of kinds axes j)

-- 6: row i of so many numbers has one not finite
unfoldable pub bad_row : ℕ → List Float → ℕ → Bool
bad_row size s i = not (all_finite (take size (drop (i * size) s)))

-- 6, 26: joint j is active, and its rotor is as a test says
abbrev pub rotor_is : (Float → Bool) → List ℕ → List Float → ℕ → Bool
rotor_is test kinds rotors j = not (is_fixed (kind_of kinds j)) && test (rotor_of rotors j)

-- 6: joint j's origin or, where it is active, its rotor has a number not finite
unfoldable pub bad_numbers : List ℕ → List Float → List Float → ℕ → Bool
bad_numbers kinds origins rotors j = bad_row 7 origins j || rotor_is (λ x. not (finite x)) kinds rotors j

-- 7: joint j's origin
unfoldable pub bad_rotation : List Float → ℕ → Bool
bad_rotation origins j = not_unit (frame_at origins (j * 7)).rotation

-- 8: link l's mass is below zero; +0.0 and -0.0 are not
unfoldable pub bad_mass : List Float → ℕ → Bool
bad_mass links l = lt (link_of links l).mass 0·0

-- 26: joint j is active and its rotor is below zero; +0.0 and -0.0 are not
unfoldable pub bad_rotor : List ℕ → List Float → ℕ → Bool
bad_rotor kinds rotors j = rotor_is (λ x. lt x 0·0) kinds rotors j

-- ---- all of them, in the order of the table

-- 6 names the lowest joint with a bad origin or rotor, or else the lowest link
unfoldable pub lists_verdict : ℕ → List ℕ → List ℕ → List Float → List Float → List Float → List Float → Verdict
lists_verdict n parents kinds origins axes links rotors =
    or_else (named_of 3 (lowest (bad_parent parents) n))
    (or_else (named_of 4 (lowest (bad_kind kinds) n))
    (or_else (named_of 5 (lowest (bad_axis kinds axes) n))
    (or_else (or_else (named_of 6 (lowest (bad_numbers kinds origins rotors) n)) (named_of 6 (lowest (bad_row 10 links) (n + 1))))
    (or_else (named_of 7 (lowest (bad_rotation origins) n))
    (or_else (named_of 8 (lowest (bad_mass links) (n + 1)))
    (named_of 26 (lowest (bad_rotor kinds rotors) n)))))))

unfoldable pub verdict_of : ℕ → List ℕ → List ℕ → List Float → List Float → List Float → List Float → Verdict
verdict_of n parents kinds origins axes links rotors =
    or_else (plain_of 1 (ltb 32 n))
    (or_else (plain_of 2 (not (sized_by n (length parents) (length kinds) (length origins) (length axes) (length links) (length rotors))))
    (lists_verdict n parents kinds origins axes links rotors))

-- ---- what the steps of the code promise each other

-- 1 and 2 have passed
pub record Sized (n parents kinds origins axes links rotors : ℕ) : Type 0 where
  pub few : n ≤ 32
  pub one_parent : parents ≡ n
  pub one-kind : kinds ≡ n
  pub seven : origins ≡ n * 7
  pub three : axes ≡ n * 3
  pub ten : links ≡ (n + 1) * 10
  pub one-rotor : rotors ≡ n
