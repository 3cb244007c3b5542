use borrow.Author.Tests.{tests}
use Rattle.std.proofs.Common.{rules}
use Rattle.refusals.proofs.Finds.{lowest_found}
use Rattle.builder.specs.Checks.{bad_rotation}
use Rattle.builder.proofs.checks.bad_rotation.Goals as goal

pub returns : goal.returns
unfolding bad_rotation
returns c = lowest_found (bad_rotation c.args.origins.now) _ _ _ _ c.find.ensures.ran (λ x q k. search (rules, tests)) (λ x q k. search (rules, tests))
