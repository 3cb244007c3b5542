use native.Mathlib.Omega.{arith}
use Rattle.calls.specs.Position.{visits_of, opening}
use Rattle.calls.proofs.Steps.{landed-is}
use Rattle.mass_matrix.proofs.Sound.{within-after}
use Rattle.mass_matrix.proofs.run.step.Goals as goal

pub advanced-requires : goal.advanced-requires
unfolding visits_of
advanced-requires c = omega (arith, c.requires.2 c.requires.3, c.requires.0.few, c.requires.0.small)

pub returns : goal.returns
returns c = (
  landed-is _ (opening c.args.s, c.args.ws.now, c.args.out.now) c.visit-o.ensures c.close.ensures c.advanced.ensures,
  within-after c.args.task.now.fitted.plan _ _ _ c.args.s c.args.ws.now (c.requires.2 c.requires.3) c.visit-o.ensures c.advanced.ensures,
)
