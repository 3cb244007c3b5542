-- What a workspace holds of an arm: frames and composites. What is written into the matrix leaves them. Assumes nothing.
use mathlib.Core.List.{List}
use mathlib.Core.Path.{◌≡◌, ◌∙◌}
use Prim.Native.Nat.{ℕ, suc, ◌*◌, ◌≤◌, ◌<◌}
use native.Mathlib.Omega.{arith}
use lib.ListN.{length}
use lib.Ieee.{Float}
use Rattle.slots.specs.Slots.{frame_at}
use Rattle.slots.proofs.Blocks.{Outside, before, frame_same}
use Rattle.arm.specs.declared.model.Link.{Link}
use Rattle.calls.specs.declared.plan.Plan.{Plan}
use Rattle.composites.specs.Composite.{composite_at}
use Rattle.composites.specs.Plan.{frame_place, composite_place, root_place, matrix_place, room_of}
use Rattle.composites.proofs.Blocks.{composite-same}
use Rattle.plain_entries.specs.Arm.{Arm}

-- the first k joints' frames, and `c` of every link for a composite: of those joints' links, and of the root where it floats
pub record Holds (p : Plan) (a : Arm) (k : ℕ) (c : ℕ → Link) (ws : List Float) : Type 0 where
  pub room : room_of p ≤ length ws
  pub frames : (j : ℕ) → j < k → frame_at ws (frame_place j) ≡ a.frame j
  pub composites : (j : ℕ) → j < k → composite_at ws (composite_place j) ≡ c (suc j)
  pub base : (p.lead ≡ 0 → ⊥) → composite_at ws (root_place p.n) ≡ c 0

pub holds_kept : (p : Plan) (a : Arm) (c : ℕ → Link) {ws ws' : List Float} → Outside (matrix_place p.n) (p.side * p.side) ws ws' → length ws' ≡ length ws → Holds p a p.n c ws → Holds p a p.n c ws'
holds_kept p a c {ws = ws} {ws' = ws'} o l s = record {
  room = omega (arith, s.room);
  frames = λ j h. frame_same ws ws' (frame_place j) (before o (frame_place j) 7 (omega arith)) ∙ s.frames j h;
  composites = λ j h. composite-same ws ws' (composite_place j) (before o (composite_place j) 13 (omega arith)) ∙ s.composites j h;
  base = λ z. composite-same ws ws' (root_place p.n) (before o (root_place p.n) 13 (omega arith)) ∙ s.base z;
}
