use borrow.Author.Tests.{tests}
use Rattle.std.proofs.Common.{rules}
use Rattle.refusals.proofs.Finds.{lowest_found}
use Rattle.calls.specs.Checks.{bad_value}
use Rattle.calls.proofs.checks.lowest_bad_value.Goals as goal

pub returns : goal.returns
returns c =
    lowest_found (bad_value c.args.kinds.now c.args.q.now) _ _ _ _ c.find.ensures.ran (λ x q k. search (rules, tests)) (λ x q k. search (rules, tests))
