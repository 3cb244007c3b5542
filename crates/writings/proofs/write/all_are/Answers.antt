-- `write::all_are` meets its contract.
use mathlib.Core.Bool.{not, ◌&&◌}
use lib.Dec.{eqb}
use lib.Ieee.{is_nan, to_bits, binary64}
use Rattle.std.proofs.lemmas.Iterator.{YieldsList-from_slice}
use Rattle.std.proofs.lemmas.Iterator.Search.{all_from_yields_List}
use Rattle.writings.specs.Write.{all_are}
use borrow.Author.Rules.{rules}
use borrow.Author.Tests.{tests}
use Rattle.writings.proofs.write.all_are.Goals as goal

pub returns : goal.returns
unfolding all_are
returns c =
    all_from_yields_List (λ x. not (is_nan x) && eqb (to_bits binary64 x) c.args.bits) _ _ _ c.all.ensures.ran (YieldsList-from_slice c.args.s.now cc) (λ x b q k. search (rules, tests))
