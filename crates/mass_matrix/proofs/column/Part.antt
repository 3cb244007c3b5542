-- A column that is not refused lies in its matrix. Assumes nothing.
use mathlib.Core.Bool.{false, not, ◌||◌}
use mathlib.Core.Path.{◌≡◌}
use Prim.Native.Nat.{ℕ, ◌+◌, ◌*◌, ◌≤◌}
use native.Mathlib.Nat.{suc-mul, mul-le-mul_right}
use native.Mathlib.Omega.{arith}
use borrow.Author.Tests.{ltb-false, leb-false, eqb-true}
use lib.Dec.{eqb, leb, ltb}
use Rattle.refusals.proofs.Flags.{neither, not-not}
use Rattle.mass_matrix.specs.Column.{bad_column}
use Rattle.composites.proofs.plan.Squares.{small-square}

pub inside : (side column count : ℕ) → bad_column side column count ≡ false → (column * side + side ≤ count) × (count ≤ 1444)
unfolding bad_column
inside side column count e =
    let long = not (eqb count (side * side)) in
    let far = leb side column in
    let a = neither (ltb 38 side) (long || far) (neither (eqb side 0) (ltb 38 side || (long || far)) e).1 in
    let b = neither long far a.1 in
    let low = leb-false side column b.1 in
    let wide = ltb-false 38 side a.0 in
    let square = eqb-true count (side * side) (not-not (eqb count (side * side)) b.0) in
    (omega (arith, suc-mul column side, mul-le-mul_right side low, square), omega (arith, small-square side wide, square))
