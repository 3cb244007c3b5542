-- What so many calls of a routine come to, one after another. Definitions only.
use Rattle.std.specs.Prelude.{ℕ, zero, suc, ◌+◌, ◌%◌, option_map, unwrap_or, Float}
use Rattle.numbers.specs.Double.{◌⊕◌, ◌⊗◌, bits, 0·0, 1·0}
use Rattle.square_root.specs.SquareRoot.{root_of}
use Rattle.half_turn.specs.HalfTurn.{half_turn_of}
use Rattle.builder.specs.Axis.{unit_axis}
use Rattle.measure.specs.declared.runs.Stand.{Stand}
use Rattle.measure.specs.declared.runs.Routine.{Routine}
use Rattle.measure.specs.declared.runs.Routine.TheVariants.{Root, Chain, Axis, Turn, Wide}

-- where the numbers stand next, and the number there
abbrev pub next_of : ℕ → ℕ
next_of at = (at % 9007199254740992 + 5566755282872655) % 9007199254740992

abbrev pub number_of : ℕ → Float
number_of at = bits (at % 9007199254740992 + 4607182418800017408)

-- ---- what is told of an answer: 0 where there is none

unfoldable pub root_or : Float → Float
root_or x = unwrap_or (root_of x) 0·0

unfoldable pub unit_or : Float → Float → Float → Float
unit_or x y z = unwrap_or (option_map (λ v. v.x) (unit_axis (record { x = x; y = y; z = z }))) 0·0

unfoldable pub half_or : Float → Float
half_or q = unwrap_or (option_map (λ v. v.sin) (half_turn_of q)) 0·0

-- ---- the calls

unfoldable pub call_of : Routine → Stand → Stand
call_of routine s =
    let at = next_of s.at in
    let x = number_of at in
    elim routine as (λ r. Stand) [
      | Root ↦ record { at = at; sum = s.sum ⊕ root_or x }
      | Chain ↦ record { at = at; sum = root_or (x ⊗ s.sum) }
      | Axis ↦ let y = next_of at in let z = next_of y in record { at = z; sum = s.sum ⊕ unit_or x (number_of y) (number_of z) }
      | Turn ↦ record { at = at; sum = s.sum ⊕ half_or (x ⊗ bits 0x4070_0000_0000_0000) }
      | Wide ↦ record { at = at; sum = s.sum ⊕ half_or (x ⊗ bits 0x4110_0000_0000_0000) }
    ]

unfoldable pub calls_of : Routine → ℕ → Stand
calls_of routine zero = record { at = 0; sum = 1·0 }
calls_of routine (suc k) = call_of routine (calls_of routine k)
