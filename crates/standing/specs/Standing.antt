-- Which entries of a mass matrix stand, where some links, frames, axes and rotors are not what they were (document 02, item 7). Definitions only.
use Rattle.std.specs.Prelude.{Bool, false, not, cond, ◌&&◌, ◌||◌, List, ℕ, suc, ◌-◌, ◌*◌, ◌/◌, ◌%◌, eqb, ltb, length, get_or, Ok, Err}
use Rattle.numbers.specs.Table.{tab}
use Rattle.refusals.specs.Refusals.{lowest, found, plain_of, or_else, Verdict}
use Rattle.arm.specs.Joint.{is_fixed}
use Rattle.arm.specs.Model.{parent_of, kind_of, wild_of}
use Rattle.calls.specs.Plan.{plan_of}
use Rattle.calls.specs.declared.plan.Plan.{Plan}
use Rattle.plain_matrix.specs.PlainMatrix.{joint_with}
use Rattle.standing.specs.Tree.{carries, between}
pub use Rattle.standing.specs.declared.changes.Changes.{Changes}

-- ---- what is not what it was

abbrev pub changes : List Bool → List Bool → List Bool → List Bool → Changes
changes links frames axes rotors = record { links = links; frames = frames; axes = axes; rotors = rotors }

abbrev pub another : List Bool → ℕ → Bool
another flags i = get_or flags i false

-- joint x's frame is another where it is told, and where its axis is, which a fixed joint has not
unfoldable pub reframed : List ℕ → List Bool → List Bool → ℕ → Bool
reframed kinds frames axes x = another frames x || (not (is_fixed (kind_of kinds x)) && another axes x)

-- ---- an entry between two joints

-- some number below n has it
abbrev pub some : (ℕ → Bool) → ℕ → Bool
some has n = found (lowest has n)

-- a link that link l carries is another, or the frame of a joint that stands on a link that l carries
unfoldable pub composite_touched : ℕ → List ℕ → List ℕ → List Bool → List Bool → List Bool → ℕ → Bool
composite_touched n parents kinds links frames axes l =
    let parent = parent_of parents in
    some (λ x. carries parent l x && another links x) (suc n) || some (λ x. carries parent l (parent x) && reframed kinds frames axes x) n

-- one of both axes is another, or for I equal to J its rotor; marks ask it of active joints alone, which have both
unfoldable pub own_touched : List Bool → List Bool → ℕ → ℕ → Bool
own_touched axes rotors J I = another axes J || (another axes I || (eqb J I && another rotors J))

-- a frame from J up to the joint just under I is another
unfoldable pub path_touched : ℕ → List ℕ → List ℕ → List Bool → List Bool → ℕ → ℕ → Bool
path_touched n parents kinds frames axes J I = some (λ x. between (parent_of parents) I J x && reframed kinds frames axes x) n

-- THE ENTRY STANDS between J and I, the lower number: I neither is J nor carries it, or nothing that the entry rests on is another
unfoldable pub stands_between : ℕ → List ℕ → List ℕ → Changes → ℕ → ℕ → Bool
stands_between n parents kinds c J I =
    not (carries (parent_of parents) (suc I) (suc J)
    && ((composite_touched n parents kinds c.links c.frames c.axes (suc J) || own_touched c.axes c.rotors J I)
    || path_touched n parents kinds c.frames c.axes J I))

-- ---- the marks, by a rule for two joints

-- of two active numbers the higher one is the column's
unfoldable pub joint_mark : ℕ → List ℕ → (ℕ → ℕ → Bool) → ℕ → ℕ → Bool
joint_mark n kinds stands row column =
    let I = joint_with kinds n row in
    let J = joint_with kinds n column in
    cond (ltb column row) (stands I J) (stands J I)

-- of the first `lead` rows and columns, the base's, nothing is said
unfoldable pub mark_at : Plan → List ℕ → (ℕ → ℕ → Bool) → ℕ → ℕ → Bool
mark_at p kinds stands row column = cond (ltb row p.lead || ltb column p.lead) false (joint_mark p.n kinds stands (row - p.lead) (column - p.lead))

-- column by column, as the matrix has its entries: mark t
abbrev pub mark_number : Plan → List ℕ → (ℕ → ℕ → Bool) → ℕ → Bool
mark_number p kinds stands t = mark_at p kinds stands (t % p.side) (t / p.side)

unfoldable pub marks_of : Plan → List ℕ → (ℕ → ℕ → Bool) → List Bool
marks_of p kinds stands = tab (mark_number p kinds stands) (p.side * p.side)

-- ---- the call

-- how many there are: one for each entry; none of a model with cause 9
unfoldable pub marks_room : Bool → ℕ → List ℕ → List ℕ → ℕ
marks_room floating n parents kinds = let side = (plan_of floating n kinds).side in cond (wild_of n parents kinds) 0 (side * side)

-- 9, then 17 where there is not one mark for each entry
unfoldable pub stands_verdict : Bool → ℕ → List ℕ → List ℕ → ℕ → Verdict
stands_verdict floating n parents kinds room =
    let side = (plan_of floating n kinds).side in
    or_else (plain_of 9 (wild_of n parents kinds)) (plain_of 17 (not (eqb room (side * side))))

-- a refusal leaves the marks
abbrev pub marked_by : Verdict → List Bool → List Bool → List Bool
marked_by (Ok u) marks made = made
marked_by (Err r) marks made = marks

-- THE CALL: the verdict, and the marks after it
unfoldable pub stands_call : Bool → ℕ → List ℕ → List ℕ → Changes → List Bool → Verdict × List Bool
stands_call floating n parents kinds c marks =
    let v = stands_verdict floating n parents kinds (length marks) in
    (v, marked_by v marks (marks_of (plan_of floating n kinds) kinds (stands_between n parents kinds c)))

-- ---- what the steps of the code promise each other

-- by all else that the entry rests on than the frames between
abbrev pub stands_up : ℕ → List ℕ → List ℕ → List Bool → List Bool → Bool → ℕ → ℕ → Bool
stands_up n parents kinds frames axes touched J I = not (carries (parent_of parents) (suc I) (suc J) && (touched || path_touched n parents kinds frames axes J I))

-- by a flag for each link's composite
unfoldable pub stands_by : ℕ → List ℕ → List ℕ → List Bool → List Bool → List Bool → List Bool → ℕ → ℕ → Bool
stands_by n parents kinds composites frames axes rotors J I = stands_up n parents kinds frames axes (another composites (suc J) || own_touched axes rotors J I) J I
