use native.Mathlib.Omega.{arith}
use Rattle.square_root.proofs.Rounds.{one_lower}
use Rattle.square_root.proofs.lower.Goals as goal

pub settled-requires : goal.settled-requires
settled-requires c = (one_lower c.args.w c.args.m c.args.rem c.requires.1 c.requires.0, omega arith)
