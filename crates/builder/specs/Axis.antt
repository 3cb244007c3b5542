-- The axis rule (document 01, "Model"). Definitions only.
use Rattle.std.specs.Prelude.{cond, ◌&&◌, Option, Some, None, ℕ, Float}
use Rattle.std.specs.Float.Ieee.{ne, le}
use Rattle.numbers.specs.Double.{◌⊘◌, bits, 0·0, 1·0, all_finite, amax_of}
use Rattle.square_root.specs.SquareRoot.{root_of}
use Rattle.numbers.specs.Vec3.{dot_of, over_of}
use Rattle.numbers.specs.declared.vec3.Vec3.{Vec3}
use Rattle.arm.specs.Joint.{components, is_fixed}

-- 1e-12
abbrev pub shortest : Float
shortest = bits 0x3D719799812DEA11

-- refuse if s ≤ 1e-12 / norm; else keep v / norm. No root, which cannot be, is refused too
unfoldable pub normed_axis : Float → Vec3 → Option Float → Option Vec3
normed_axis s v (Some norm) = cond (le s (shortest ⊘ norm)) None (Some (over_of v norm))
normed_axis s v None = None

-- with v the axis divided by s
unfoldable pub scaled_axis : Float → Vec3 → Option Vec3
scaled_axis s v = normed_axis s v (root_of (dot_of v v))

-- s is the largest absolute component; refuse if a component isn't finite or s = 0
unfoldable pub unit_axis : Vec3 → Option Vec3
unit_axis axis =
    let s = amax_of (components axis) in
    cond (all_finite (components axis) && ne s 0·0) (scaled_axis s (over_of axis s)) None

-- a fixed joint's axis is never looked at and becomes (1,0,0)
unfoldable pub kept_axis : ℕ → Vec3 → Option Vec3
kept_axis kind axis = cond (is_fixed kind) (Some (record { x = 1·0; y = 0·0; z = 0·0 })) (unit_axis axis)
