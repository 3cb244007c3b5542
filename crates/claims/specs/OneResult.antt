-- What it is for a contract to determine a call (document 01, "Holding a contract to its word"). Definitions only.
use Rattle.std.specs.Prelude.{◌≡◌}

-- Two results that a contract allows on the same lifetimes and arguments agree in all that is seen of the answer and of what was lent.
-- A contract is a function's `Post`: its `ensures`, as the prover reads it, of the lifetimes, the arguments, the answer, and the parameters at exit.
abbrev pub OneResult : {K : Type 0} {A R E : K → Type 0} {S : Type 0} → ((κs : K) → A κs → R κs → E κs → Type 0) → ((κs : K) → R κs → E κs → S) → Type 0
OneResult {K} {A} {R} {E} post seen = (κs : K) (a : A κs) (r s : R κs) (e f : E κs) → post κs a r e → post κs a s f → seen κs r e ≡ seen κs s f
