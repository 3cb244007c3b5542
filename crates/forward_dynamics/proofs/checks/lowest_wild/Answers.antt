use Rattle.std.proofs.Common.{◌≡◌, ℕ, suc, ◌+◌, Bool, not, cond, Some, ap, List, [], ◌∷◌, length, get_or, rules, refl, ◌∙◌, arith, add-one, add-zero, zero-add}
use lib.Ieee.{Float, nan}
use Rattle.numbers.specs.Double.{finite}
use Rattle.std.specs.List.{position_from}
use Rattle.std.proofs.lemmas.Iterator.{YieldsList-from_slice}
use Rattle.std.proofs.lemmas.Iterator.Search.{position_from_yields_List}
use borrow.Author.Tests.{tests}
use Rattle.std.proofs.lemmas.Iterator.Adapters.{position_from-zero}
use Rattle.refusals.specs.Refusals.{scan, lowest}
use Rattle.forward_dynamics.specs.Checks.{wild_number}
use Rattle.forward_dynamics.proofs.checks.lowest_wild.Goals as goal

-- a place in a list that begins at i, as the definitions scan it
position-scan : (test : Float → Bool) (bad : ℕ → Bool) (s : List Float) (i : ℕ) → ((k : ℕ) → bad (i + k) ≡ test (get_or s k nan)) → position_from test i s ≡ scan bad (length s) i
unfolding scan
position-scan test bad [] i h = refl
position-scan test bad (x ∷ s) i h =
    let e : bad i ≡ test x = rw add-zero at (h 0) in
    rw (e, add-one) (ap (cond (test x) (Some i)) (position-scan test bad s (suc i) (λ k. let f : suc i + k ≡ i + suc k = omega arith in rw f (h (suc k)))))

pub returns : goal.returns
unfolding lowest wild_number
returns c =
    position_from_yields_List (λ x. not (finite x)) _ _ _ c.position.ensures.ran (YieldsList-from_slice c.args.s.now (cc)) (λ x b q k. search (rules, tests))
    ∙ position_from-zero (λ x. not (finite x)) c.args.s.now
    ∙ position-scan (λ x. not (finite x)) (wild_number c.args.s.now) c.args.s.now 0 (λ k. rw zero-add)
