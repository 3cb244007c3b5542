use borrow.Author.Tests.{tests}
use Rattle.std.proofs.Common.{rules}
use Rattle.refusals.proofs.Finds.{lowest_found}
use Rattle.builder.specs.Checks.{bad_row}
use Rattle.builder.proofs.checks.bad_row.Goals as goal

pub returns : goal.returns
returns c = lowest_found (bad_row c.args.size c.args.s.now) _ _ _ _ c.find.ensures.ran (λ x q k. search (rules, tests)) (λ x q k. search (rules, tests))
