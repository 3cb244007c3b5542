-- One entry of the mass matrix by itself: the wrench that answers a joint's motion, "then the walk up" (document 02, items 10 and 11). Definitions only.
use Rattle.std.specs.Prelude.{cond, ℕ, zero, suc, ◌-◌, eqb, get_or, Float}
use Rattle.std.specs.Float.{nan}
use Rattle.numbers.specs.Double.{0·0}
use Rattle.spatial.specs.Operators.{wrench_to_parent}
use Rattle.spatial.specs.Wrench.{vector_of}
use Rattle.spatial.specs.declared.wrench.Wrench.{Wrench}
use Rattle.arm.specs.Joint.{with_rotor}
use Rattle.composites.specs.Composite.{force_of, entry_of}
use Rattle.plain_entries.specs.Arm.{Arm}
use Rattle.plain_entries.specs.Gather.{composite_of}

-- what answers joint J's motion, at the link that it carries
abbrev pub answer_of : Arm → ℕ → Wrench
answer_of a J = force_of (a.motion J) (composite_of a (suc J))

-- a wrench at joint j's link goes from joint to parent until joint i is met, and is taken along i's motion there; `other` where the root comes first; at most k joints
unfoldable pub along : Arm → Float → ℕ → ℕ → ℕ → Wrench → Float
along a other zero j i w = other
along a other (suc k) j i w =
    cond (eqb j i) (entry_of (a.motion i) w)
    (cond (eqb (a.parent j) 0) other (along a other k (a.parent j - 1) i (wrench_to_parent (a.frame j) w)))

-- joint J's rotor is added where I is J itself
abbrev pub with_own : Arm → ℕ → ℕ → Float → Float
with_own a J I x = cond (eqb J I) (with_rotor (a.rotor J) x) x

-- THE ENTRY between joint J and J itself or a joint I that J hangs on; +0.0 for any other I. A parent link is at most J, so J + 1 joints are enough
abbrev pub entry_between : Arm → ℕ → ℕ → Float
entry_between a J I = with_own a J I (along a 0·0 (suc J) J I (answer_of a J))

-- a wrench at joint j's link, carried on to the root's
unfoldable pub to_root : Arm → ℕ → ℕ → Wrench → Wrench
to_root a zero j w = w
to_root a (suc k) j w =
    let up = wrench_to_parent (a.frame j) w in
    cond (eqb (a.parent j) 0) up (to_root a k (a.parent j - 1) up)

-- what answers joint J's motion, at the root
abbrev pub root_answer : Arm → ℕ → Wrench
root_answer a J = to_root a (suc J) J (answer_of a J)

-- number k of a wrench: torque, then force
unfoldable pub number_of : Wrench → ℕ → Float
number_of w k = get_or (vector_of w) k nan
