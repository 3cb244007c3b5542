use mathlib.Core.Path.{ap, ◌∙◌}
use borrow.Author.Tests.{tests}
use Rattle.std.proofs.Common.{rules}
use Rattle.refusals.specs.Refusals.{named_of}
use Rattle.refusals.proofs.Finds.{lowest_found}
use Rattle.calls.specs.Checks.{far_turn, turns_verdict}
use Rattle.calls.proofs.checks.check_turns.Goals as goal

pub returns : goal.returns
unfolding turns_verdict
returns c =
    c.named.ensures ∙ ap (named_of 13) (lowest_found (far_turn c.args.kinds.now c.args.q.now) _ _ _ _ c.find.ensures.ran (λ x q k. search (rules, tests)) (λ x q k. search (rules, tests)))
