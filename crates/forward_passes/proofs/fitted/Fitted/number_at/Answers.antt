use Rattle.std.proofs.Common.{◌∙◌, refl, arith}
use Rattle.arm.proofs.model.Known.{motion-at-is}
use Rattle.arm.proofs.topology.Counts.{actives-below}
use Rattle.forward_passes.proofs.fitted.Fitted.number_at.Goals as goal

pub returns : goal.returns
returns c =
    let arm = c.args.self.now in
    let m = arm.model.now in
    let kind = (motion-at-is m.kinds m.axes c.args.j refl (arm.fit.good.known c.args.j c.requires)).number in
    (c.number_at.ensures, λ f. let below = actives-below m.kinds arm.plan.n c.args.j c.requires (λ z. f (kind ∙ z)) in omega (arith, c.number_at.ensures, arm.fit.sided))
