use Rattle.calls.specs.Position.{opening}
use Rattle.calls.proofs.Steps.{landed-is}
use Rattle.forward_dynamics.proofs.Sound.{within-after}
use Rattle.forward_dynamics.proofs.run.step.Goals as goal

pub returns : goal.returns
returns c = (landed-is _ (opening c.args.s, c.args.ws.now, c.args.out.now) c.visit-o.ensures c.close.ensures c.advanced.ensures, within-after c.args.task.now.arm.plan _ _ _ _ _ _ _ _ c.args.s c.args.ws.now (c.requires.2 c.requires.3) c.visit-o.ensures c.advanced.ensures)
