use Rattle.arm.specs.Model.{joint_of}
use Rattle.arm.proofs.model.Known.{motion-at-is}
use Rattle.arm.proofs.model.joint_at.Goals as goal

pub returns : goal.returns
unfolding joint_of
returns c =
    (cc, c.parent_at.ensures.1, motion-at-is c.args.kinds.now c.args.axes.now c.args.j c.motion_at.ensures (c.requires.0.known c.args.j c.requires.1))
