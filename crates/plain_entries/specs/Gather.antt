-- The composite of a link: "its own link, then its children from highest to lowest number, each worked out afresh by the same rule" (document 02, item 10). Definitions only.
use Rattle.std.specs.Prelude.{cond, ℕ, zero, suc, ◌-◌, eqb}
use Rattle.arm.specs.declared.model.Link.{Link}
use Rattle.composites.specs.Composite.{to_parent_of, joined_of}
use Rattle.plain_entries.specs.Arm.{Arm}

-- link l, and what those of the i highest joints that stand on it give, added from the highest number to the lowest
unfoldable pub gather : Arm → (ℕ → Link) → ℕ → ℕ → Link
gather a given zero l = a.link l
gather a given (suc i) l =
    let j = a.n - suc i in
    cond (eqb (a.parent j) l) (joined_of (gather a given i l) (given j)) (gather a given i l)

-- what joint j gives to the link it stands on, by a rule for the link it carries
abbrev pub gives : Arm → (ℕ → Link) → ℕ → Link
gives a composite j = to_parent_of (composite (suc j)) (a.frame j)

-- by at most k rules within each other
unfoldable pub composite_to : Arm → ℕ → ℕ → Link
composite_to a zero l = a.link l
composite_to a (suc k) l = gather a (gives a (composite_to a k)) a.n l

-- THE COMPOSITE of link l. A child's link has a higher number than its parent's, so n rules within each other are enough
abbrev pub composite_of : Arm → ℕ → Link
composite_of a l = composite_to a a.n l

-- ---- what the steps of the code promise each other

-- after the i highest joints
abbrev pub gathered_of : Arm → ℕ → ℕ → Link
gathered_of a i l = gather a (gives a (composite_of a)) i l
