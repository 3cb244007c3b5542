use mathlib.Core.Bool.{true, false}
use mathlib.Core.Path.{◌≡◌}
use borrow.Author.Tests.{tests}
use Rattle.std.proofs.Common.{rules}
use Rattle.std.proofs.lemmas.Iterator.{first_from_Range}
use Rattle.arm.specs.Topology.{holds_of}
use Rattle.arm.proofs.topology.Actives.{searched}
use Rattle.arm.proofs.topology.active_joint.Goals as goal

pub returns : goal.returns
returns c =
    searched c.args.kinds.now c.args.n c.args.k c.find.result
    (first_from_Range _ _ _ _ (λ x. holds_of c.args.kinds.now c.args.k x ≡ true) (λ x. holds_of c.args.kinds.now c.args.k x ≡ false) c.find.ensures.ran (λ x q k. search (rules, tests)) (λ x q k. search (rules, tests)))
