-- Two matrices over one tree: where an entry is stored, what of the two arms is the same, and what it is for marks to keep their word (document 02, item 7). Definitions only.
use Rattle.std.specs.Prelude.{Bool, true, false, List, ◌≡◌, ℕ, suc, ◌+◌, ◌*◌, ◌≤◌, ◌<◌, length, get_or, Float}
use Rattle.std.specs.Float.{nan}
use Rattle.numbers.specs.Double.{0·0}
use Rattle.refusals.specs.Refusals.{Verdict, fine}
use Rattle.slots.specs.Slots.{vec3_at, frame_at}
use Rattle.arm.specs.Model.{parent_of, kind_of, rotor_of, link_of}
use Rattle.arm.specs.Topology.{actives_of, value_of}
use Rattle.arm.specs.declared.model.Model.{Model}
use Rattle.calls.specs.Plan.{plan_of}
use Rattle.calls.specs.declared.position.Outcome.{Outcome}
use Rattle.calls.specs.declared.position.Outcome.TheVariants.{Accepted}
use Rattle.plain_entries.specs.Arm.{arm_of}
use Rattle.plain_entries.specs.Rests.{Carries, Agree}
use Rattle.mass_matrix.specs.MassMatrix.{floats}
use Rattle.mass_matrix.specs.declared.mass_matrix.Mode.{Mode}
use Rattle.dynamics.specs.declared.calculation.Calculation.{Calculation}
use Rattle.dynamics.specs.declared.calculation.Calculation.TheVariants.{Matrix}
use Rattle.standing.specs.Standing.{another}
use Rattle.standing.specs.declared.changes.Changes.{Changes}

-- the number that a matrix has in joint I's row and joint J's column
unfoldable pub stored : Mode → Model → List Float → ℕ → ℕ → Float
stored mode m matrix I J =
    let p = plan_of (floats mode) m.n m.kinds in
    get_or matrix ((p.lead + actives_of m.kinds J) * p.side + (p.lead + actives_of m.kinds I)) nan

-- joint j is not fixed
abbrev pub Active : Model → ℕ → Type 0
Active m j = kind_of m.kinds j ≡ 2 → ⊥

-- "over one tree with the same kinds"
pub record OneTree (m m' : Model) : Type 0 where
  pub joints : m.n ≡ m'.n
  pub parents : (j : ℕ) → j < m.n → parent_of m.parents j ≡ parent_of m'.parents j
  pub kinds : (j : ℕ) → j < m.n → kind_of m.kinds j ≡ kind_of m'.kinds j

-- two models with their joints' values are THE SAME BUT for what was told; of a fixed joint's axis and rotor nothing is asked
pub record SameBut (c : Changes) (m m' : Model) (q q' : List Float) : Type 0 where
  pub tree : OneTree m m'
  pub links : (l : ℕ) → l ≤ m.n → another c.links l ≡ false → link_of m.links l ≡ link_of m'.links l
  -- a joint's frame is told as one: its origin, or its number of q
  pub origins : (j : ℕ) → j < m.n → another c.frames j ≡ false → frame_at m.origins (j * 7) ≡ frame_at m'.origins (j * 7)
  pub values : (j : ℕ) → j < m.n → another c.frames j ≡ false → value_of m.kinds q j ≡ value_of m'.kinds q' j
  pub axes : (j : ℕ) → j < m.n → Active m j → another c.axes j ≡ false → vec3_at m.axes (j * 3) ≡ vec3_at m'.axes (j * 3)
  pub rotors : (j : ℕ) → j < m.n → Active m j → another c.rotors j ≡ false → rotor_of m.rotors j ≡ rotor_of m'.rotors j

-- ---- over contracts: a contract is a function's `Post`, as in `OneResult`

-- what is asked of a matrix: the calculation, the model's lists and q
abbrev pub Question : Type 0
Question = Calculation × Model × List Float

-- WHICH NUMBERS AN ENTRY RESTS ON, of the matrices that a call accepts. What is seen of the call is the outcome and the output
pub record StoredEntries {K : Type 0} {A R E : K → Type 0} (post : (κs : K) → A κs → R κs → E κs → Type 0) (asked : (κs : K) → A κs → Question) (seen : (κs : K) → R κs → E κs → Outcome × List Float) : Type 0 where
  -- the entry between an active joint J and J itself, or an active joint I that carries it, has the same bits in two matrices over one tree, where all that it rests on agrees. The roots may differ
  pub stands : (κs λs : K) (a : A κs) (b : A λs) (r : R κs) (s : R λs) (e : E κs) (f : E λs) → post κs a r e → post λs b s f
      → (mode mode' : Mode) → (asked κs a).0 ≡ Matrix mode → (asked λs b).0 ≡ Matrix mode' → (seen κs r e).0 ≡ Accepted → (seen λs s f).0 ≡ Accepted
      → (let m = (asked κs a).1 in let m' = (asked λs b).1 in OneTree m m'
      → (J I : ℕ) → J < m.n → Active m J → Active m I → Carries m.n (parent_of m.parents) (suc I) (suc J) → Agree (arm_of m (asked κs a).2) (arm_of m' (asked λs b).2) J I
      → stored mode m (seen κs r e).1 I J ≡ stored mode' m' (seen λs s f).1 I J)
  -- mirrored places among joints have equal bits
  pub mirrored : (κs : K) (a : A κs) (r : R κs) (e : E κs) → post κs a r e → (mode : Mode) → (asked κs a).0 ≡ Matrix mode → (seen κs r e).0 ≡ Accepted
      → (let m = (asked κs a).1 in (J I : ℕ) → J < m.n → I < m.n → Active m J → Active m I → stored mode m (seen κs r e).1 I J ≡ stored mode m (seen κs r e).1 J I)
  -- joints of which neither carries the other have +0.0
  pub nothing : (κs : K) (a : A κs) (r : R κs) (e : E κs) → post κs a r e → (mode : Mode) → (asked κs a).0 ≡ Matrix mode → (seen κs r e).0 ≡ Accepted
      → (let m = (asked κs a).1 in (J I : ℕ) → J < m.n → I < m.n → Active m J → Active m I
      → (Carries m.n (parent_of m.parents) (suc I) (suc J) → ⊥) → (Carries m.n (parent_of m.parents) (suc J) (suc I) → ⊥) → stored mode m (seen κs r e).1 I J ≡ 0·0)

-- what is asked of the marks: whether the root floats, n, parents and kinds, and what was told
abbrev pub Telling : Type 0
Telling = Bool × ℕ × List ℕ × List ℕ × Changes

-- the marks are asked for the first matrix's tree, and for the root of both
pub record Tells (mode mode' : Mode) (m : Model) (t : Telling) : Type 0 where
  pub root : (floats mode ≡ t.0) × (floats mode' ≡ t.0)
  pub tree : (m.n ≡ t.1) × (m.parents ≡ t.2) × (m.kinds ≡ t.3)

-- THE MARKS KEEP THEIR WORD: of two matrices that are accepted, of arms that are the same but for what was told, the second one has in every marked place the bits of the first
abbrev pub MarksKeep : {K L : Type 0} {A R E : K → Type 0} {B Q F : L → Type 0}
    → ((κs : K) → A κs → R κs → E κs → Type 0) → ((κs : L) → B κs → Q κs → F κs → Type 0)
    → ((κs : K) → A κs → Question) → ((κs : K) → R κs → E κs → Outcome × List Float) → ((κs : L) → B κs → Telling) → ((κs : L) → Q κs → F κs → Verdict × List Bool) → Type 0
MarksKeep {K} {L} {A} {R} {E} {B} {Q} {F} post post' asked seen told marked =
    (κs λs : K) (μs : L) (a : A κs) (b : A λs) (c : B μs) (r : R κs) (s : R λs) (v : Q μs) (e : E κs) (f : E λs) (g : F μs)
    → post κs a r e → post λs b s f → post' μs c v g
    → (mode mode' : Mode) → (asked κs a).0 ≡ Matrix mode → (asked λs b).0 ≡ Matrix mode' → Tells mode mode' (asked κs a).1 (told μs c)
    → (seen κs r e).0 ≡ Accepted → (seen λs s f).0 ≡ Accepted → (marked μs v g).0 ≡ fine
    → SameBut (told μs c).4 (asked κs a).1 (asked λs b).1 (asked κs a).2 (asked λs b).2
    → (t : ℕ) → t < length (marked μs v g).1 → another (marked μs v g).1 t ≡ true → get_or (seen κs r e).1 t nan ≡ get_or (seen λs s f).1 t nan
