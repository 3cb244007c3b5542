-- What `answers` moved over is put out.
use Rattle.std.proofs.Common.{arith, refl, ap, length, take, length-drop, length-take}
use Rattle.desk.proofs.serve.Goals as goal

pub returns : goal.returns
returns c = (
  refl,
  record {
    within = (omega (arith, length-take c.args.k.end c.args.block.now), omega arith, omega arith);
    answers = rw c.write_front-w.ensures c.answers-r.ensures.moved.answers;
    left = c.answers-r.ensures.moved.left;
    takes = λ h. simp length-drop (omega arith);
    ends = λ h. absurd (omega (arith, length-drop c.args.k.next (take c.args.k.end c.args.block.now), ap length h));
  },
)
