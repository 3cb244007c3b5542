use borrow.Author.Tests.{tests}
use Rattle.std.proofs.Common.{rules}
use Rattle.refusals.proofs.Finds.{lowest_found}
use Rattle.builder.specs.Checks.{bad_numbers}
use Rattle.builder.proofs.checks.bad_numbers.Goals as goal

pub returns : goal.returns
unfolding bad_numbers
returns c = lowest_found (bad_numbers c.args.kinds.now c.args.origins.now c.args.rotors.now) _ _ _ _ c.find.ensures.ran (λ x q k. search (rules, tests)) (λ x q k. search (rules, tests))
