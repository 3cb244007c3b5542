use Rattle.std.proofs.Common.{ℕ, not, refl, rules}
use Rattle.std.proofs.Math.Bool.{and_assoc, and-true, true-and}
use Rattle.std.proofs.lemmas.Iterator.{YieldsList-from_range}
use Rattle.std.proofs.lemmas.Iterator.Search.{all_from_yields_List}
use borrow.Author.Tests.{tests}
use lib.Ieee.{le}
use Rattle.numbers.specs.Double.{0·0}
use Rattle.mat6.specs.Mat6.{cell}
use Rattle.base_solve.specs.BaseSolve.{above_to}
use Rattle.base_solve.proofs.diagonal_above.Goals as goal

pub returns : goal.returns
unfolding above_to
returns c =
    let e = all_from_yields_List (λ (k : ℕ). not (le (cell c.args.a.now k k) 0·0)) _ _ c.all.result c.all.ensures.ran (YieldsList-from_range 0 6 6 refl refl) (λ x b q k. search (rules, tests)) in
    rw e (simp (true-and, and-true, and_assoc))
