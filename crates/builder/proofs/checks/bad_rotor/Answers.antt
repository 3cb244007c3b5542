use borrow.Author.Tests.{tests}
use Rattle.std.proofs.Common.{rules}
use Rattle.refusals.proofs.Finds.{lowest_found}
use Rattle.builder.specs.Checks.{bad_rotor}
use Rattle.builder.proofs.checks.bad_rotor.Goals as goal

pub returns : goal.returns
unfolding bad_rotor
returns c = lowest_found (bad_rotor c.args.kinds.now c.args.rotors.now) _ _ _ _ c.find.ensures.ran (λ x q k. search (rules, tests)) (λ x q k. search (rules, tests))
