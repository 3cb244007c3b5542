use borrow.Author.Tests.{tests}
use Rattle.std.proofs.Common.{rules}
use Rattle.refusals.proofs.Finds.{lowest_found}
use Rattle.arm.specs.Model.{bad_kind}
use Rattle.builder.proofs.checks.bad_kind.Goals as goal

pub returns : goal.returns
returns c = lowest_found (bad_kind c.args.kinds.now) _ _ _ _ c.find.ensures.ran (λ x q k. search (rules, tests)) (λ x q k. search (rules, tests))
