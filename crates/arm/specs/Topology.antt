-- Active numbers: the joints that are not fixed, in joint order (document 01, "Model"). Definitions only.
use Rattle.std.specs.Prelude.{Bool, not, cond, ◌&&◌, Option, List, ◌≡◌, ℕ, zero, suc, ◌+◌, ◌<◌, eqb, get_or, Float}
use Rattle.std.specs.Float.{nan}
use Rattle.numbers.specs.Double.{0·0}
use Rattle.numbers.specs.Table.{tab}
use Rattle.refusals.specs.Refusals.{lowest}
use Rattle.spatial.specs.declared.frame.Frame.{Frame}
use Rattle.arm.specs.Joint.{is_fixed, frame_of}
use Rattle.arm.specs.Model.{kind_of, joint_of}

-- how many of the joints below j are active: joint j's own number where it is
unfoldable pub actives_of : List ℕ → ℕ → ℕ
actives_of kinds zero = 0
actives_of kinds (suc j) = actives_of kinds j + cond (is_fixed (kind_of kinds j)) 0 1

-- the table of these numbers
unfoldable pub active_numbers : List ℕ → List ℕ
unfolding tab
active_numbers kinds = tab (actives_of kinds) 33

-- joint j's number of q or qd; a fixed joint's is +0.0
unfoldable pub value_of : List ℕ → List Float → ℕ → Float
value_of kinds q j = cond (is_fixed (kind_of kinds j)) 0·0 (get_or q (actives_of kinds j) nan)

-- joint j's frame in its parent link, at the numbers q
abbrev pub joint_frame : List ℕ → List ℕ → List Float → List Float → List Float → ℕ → Frame
joint_frame parents kinds origins axes q j = let joint = joint_of parents kinds origins axes j in frame_of joint.origin joint.motion (value_of kinds q j)

-- ---- the joint of an active number

-- joint j is active and has active number k
unfoldable pub holds_of : List ℕ → ℕ → ℕ → Bool
holds_of kinds k j = not (is_fixed (kind_of kinds j)) && eqb (actives_of kinds j) k

-- the joint of active number k, among the first n
unfoldable pub active_joint : List ℕ → ℕ → ℕ → Option ℕ
active_joint kinds n k = lowest (holds_of kinds k) n

-- joint j is one of the first n, is active, and has active number k
pub record Numbered (kinds : List ℕ) (n k j : ℕ) : Type 0 where
  pub joint : j < n
  pub active : kind_of kinds j ≡ 2 → ⊥
  pub number : actives_of kinds j ≡ k
