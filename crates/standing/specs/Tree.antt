-- "Carries", "below" and "between" (`Rests` of `plain_entries`) as tests that can be worked out, on a tree whose parent links come before their joints. Definitions only.
use Rattle.std.specs.Prelude.{Bool, not, ◌&&◌, ◌||◌, ℕ, zero, suc, ◌-◌, eqb}

-- link l carries link x: x is l, or the link that x's joint stands on is carried; at most k joints up
unfoldable pub carries_in : ℕ → (ℕ → ℕ) → ℕ → ℕ → Bool
carries_in zero parent l x = eqb x l
carries_in (suc k) parent l x = eqb x l || (not (eqb x 0) && carries_in k parent l (parent (x - 1)))

-- a parent link has a lower number than its joint's own, so x joints are enough
abbrev pub carries : (ℕ → ℕ) → ℕ → ℕ → Bool
carries parent l x = carries_in x parent l x

-- joint x is strictly below joint J
abbrev pub below : (ℕ → ℕ) → ℕ → ℕ → Bool
below parent J x = carries parent (suc J) (parent x)

-- joint x is from J up to the joint just under I
abbrev pub between : (ℕ → ℕ) → ℕ → ℕ → ℕ → Bool
between parent I J x = carries parent (suc x) (suc J) && below parent I x
