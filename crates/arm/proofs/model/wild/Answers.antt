use mathlib.Core.Bool.{Bool, false}
use mathlib.Core.List.{List}
use mathlib.Core.Path.{◌≡◌, refl, sym, ◌∙◌}
use Prim.Native.Nat.{ℕ}
use borrow.Author.Tests.{tests, lt-ltb, le-ltb}
use native.Mathlib.Omega.{arith}
use Rattle.std.proofs.Common.{rules}
use Rattle.std.proofs.lemmas.Iterator.{YieldsList-from_range}
use Rattle.std.proofs.lemmas.Iterator.Search.{any_from_yields_List}
use Rattle.arm.specs.Model.{Good, wild_joint, wild_of}
use Rattle.arm.proofs.model.Known.{any_found, tame}
use Rattle.arm.proofs.model.wild.Goals as goal

-- the answer, and what it tells
told : (n : ℕ) (parents kinds : List ℕ) {r : Bool} → r ≡ wild_of n parents kinds → (r ≡ wild_of n parents kinds) × (r ≡ false → Good n parents kinds)
told n parents kinds e = (e, λ f. tame n parents kinds (sym e ∙ f))

pub returns-then-n-gt32 : goal.returns-then-n-gt32
unfolding wild_of
returns-then-n-gt32 c = told _ _ _ (simp (lt-ltb _ _ c.if-n-gt32.true))

pub returns-else-n-gt32 : goal.returns-else-n-gt32
unfolding wild_of
returns-else-n-gt32 c =
    told _ _ _
    (simp (le-ltb _ _ c.if-n-gt32.false)
    (any_from_yields_List (wild_joint c.args.parents.now c.args.kinds.now) _ _ _ c.any.ensures.ran (YieldsList-from_range 0 _ _ refl (omega arith)) (λ x b q k. search (rules, tests))
    ∙ any_found _ _))
