-- Places in a square. Assumes nothing.
use Prim.Native.Nat.{ℕ, ◌+◌, ◌*◌, ◌≤◌, ◌<◌}
use native.Mathlib.Nat.{suc-mul, mul-le-mul_left, mul-le-mul_right}
use native.Mathlib.Omega.{arith}

pub square : (row column side : ℕ) → row < side → column < side → column * side + row < side * side
square row column side h g = omega (arith, suc-mul column side, mul-le-mul_right side g)

pub small-square : (side : ℕ) → side ≤ 38 → side * side ≤ 1444
small-square side h = omega (arith, mul-le-mul_left side h)

pub ruleset squares = (square, small-square)
