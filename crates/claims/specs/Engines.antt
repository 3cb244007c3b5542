-- What it is for two calls to answer the same (document 02, item 10). Definitions only.
use Rattle.std.specs.Prelude.{◌≡◌}

-- Whatever is asked of both, what is seen of the first and of the second is equal, but where the first's is excepted.
-- A contract is a function's `Post`, as in `OneResult`; each call is on lifetimes and arguments of its own.
abbrev pub SameAnswer : {K L : Type 0} {A R E : K → Type 0} {B Q F : L → Type 0} {T S : Type 0}
    → ((κs : K) → A κs → R κs → E κs → Type 0) → ((κs : L) → B κs → Q κs → F κs → Type 0)
    → ((κs : K) → A κs → T) → ((κs : L) → B κs → T) → ((κs : K) → R κs → E κs → S) → ((κs : L) → Q κs → F κs → S) → (S → Type 0) → Type 0
SameAnswer {K} {L} {A} {R} {E} {B} {Q} {F} post post' asked asked' seen seen' excepted =
    (κs : K) (λs : L) (a : A κs) (b : B λs) (r : R κs) (q : Q λs) (e : E κs) (f : F λs)
    → asked κs a ≡ asked' λs b → post κs a r e → post' λs b q f → (excepted (seen κs r e) → ⊥) → seen κs r e ≡ seen' λs q f
