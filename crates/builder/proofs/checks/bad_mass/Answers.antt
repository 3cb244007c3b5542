use borrow.Author.Tests.{tests}
use Rattle.std.proofs.Common.{rules}
use Rattle.refusals.proofs.Finds.{lowest_found}
use Rattle.arm.specs.Model.{link_of}
use Rattle.builder.specs.Checks.{bad_mass}
use Rattle.builder.proofs.checks.bad_mass.Goals as goal

pub returns : goal.returns
unfolding bad_mass link_of
returns c = lowest_found (bad_mass c.args.links.now) _ _ _ _ c.find.ensures.ran (λ x q k. search (rules, tests)) (λ x q k. search (rules, tests))
