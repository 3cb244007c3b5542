use mathlib.Core.List.{List}
use mathlib.Core.Path.{◌≡◌}
use Prim.Native.Nat.{ℕ, ◌≤◌}
use native.Mathlib.Omega.{arith}
use lib.ListN.{get_or}
use Rattle.arm.specs.Topology.{actives_of, active_numbers}
use Rattle.numbers.proofs.Tables.{get_or-tab}
use Rattle.arm.proofs.topology.number_at.Goals as goal

is : (kinds numbers : List ℕ) (j : ℕ) → numbers ≡ active_numbers kinds → j ≤ 32 → get_or numbers j 0 ≡ actives_of kinds j
unfolding active_numbers
is kinds numbers j e h = rw e (get_or-tab (actives_of kinds) 0 33 j (omega arith))

pub returns : goal.returns
returns c = rw c.from.ensures (is _ _ _ c.requires.0 c.requires.1)
