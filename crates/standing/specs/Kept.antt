-- What a mark speaks of: two arms over one tree that are the same but for what was told (document 02, item 7). Definitions only.
use Rattle.std.specs.Prelude.{false, List, ◌≡◌, ℕ, ◌≤◌, ◌<◌}
use Rattle.arm.specs.Model.{parent_of, kind_of}
use Rattle.plain_entries.specs.Arm.{Arm}
use Rattle.standing.specs.Standing.{Changes, another, reframed}

-- what was not told is kept; nothing is asked of a fixed joint's axis and rotor, and of what stands behind the n joints
pub record Kept (n : ℕ) (parents kinds : List ℕ) (c : Changes) (a b : Arm) : Type 0 where
  pub first : a.n ≡ n
  pub second : b.n ≡ n
  pub tree : (j : ℕ) → j < n → (a.parent j ≡ parent_of parents j) × (b.parent j ≡ parent_of parents j)
  pub links : (l : ℕ) → l ≤ n → another c.links l ≡ false → a.link l ≡ b.link l
  pub frames : (j : ℕ) → j < n → reframed kinds c.frames c.axes j ≡ false → a.frame j ≡ b.frame j
  pub axes : (j : ℕ) → j < n → (kind_of kinds j ≡ 2 → ⊥) → another c.axes j ≡ false → a.motion j ≡ b.motion j
  pub rotors : (j : ℕ) → j < n → (kind_of kinds j ≡ 2 → ⊥) → another c.rotors j ≡ false → a.rotor j ≡ b.rotor j
