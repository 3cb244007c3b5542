use Rattle.square_root.proofs.Rounds.{remainder-rounded}
use Rattle.square_root.proofs.settled.Goals as goal

pub returns-then-rem-m : goal.returns-then-rem-m
returns-then-rem-m c =
    remainder-rounded c.args.w c.args.m c.args.rem c.ranges.w.fits c.requires.0 c.requires.1 c.if-m-rem.true c.if-rem-m.true
