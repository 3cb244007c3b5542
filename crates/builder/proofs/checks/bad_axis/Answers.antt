use borrow.Author.Tests.{tests}
use Rattle.std.proofs.Common.{rules}
use Rattle.refusals.proofs.Finds.{lowest_found}
use Rattle.builder.specs.Checks.{bad_axis}
use Rattle.builder.proofs.checks.bad_axis.Goals as goal

pub returns : goal.returns
unfolding bad_axis
returns c = lowest_found (bad_axis c.args.kinds.now c.args.axes.now) _ _ _ _ c.find.ensures.ran (λ x q k. search (rules, tests)) (λ x q k. search (rules, tests))
