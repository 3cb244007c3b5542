-- `column::column` meets its contract. A column is no longer than its matrix.
use mathlib.Core.Path.{ap}
use mathlib.Core.Bool.{Bool, true, false, cond}
use mathlib.Core.List.{List, []}
use Prim.Native.Nat.{ℕ, zero-le, ◌*◌, ◌≤◌}
use native.Mathlib.Omega.{arith}
use lib.ListN.{length, take, drop, length-take, length-drop}
use lib.Ieee.{Float}
use Rattle.mass_matrix.specs.Column.{bad_column, column_of}
use Rattle.writings.proofs.column.column.Goals as goal

short : (side column : ℕ) (m : List Float) → length (column_of side column m) ≤ length m
unfolding column_of
short side column m = go (bad_column side column (length m))
  where
    go : (t : Bool) → length (cond t [] (take side (drop (column * side) m))) ≤ length m
    go true = zero-le
    go false = omega (arith, length-take side (drop (column * side) m), length-drop (column * side) m)

pub put_column-requires : goal.put_column-requires
put_column-requires c =
    let n = short c.in-Some.side c.in-Some-next_number.column (take c.in-Some-list.n c.list.new.into) in
    (c.requires, omega (arith, n, ap length c.column-part.ensures, length-take c.in-Some-list.n c.list.new.into, c.list.auto.into, c.double_buffer-matrix.ensures))
