-- `request::flag_listed` meets its contract.
use native.Mathlib.Omega.{arith}
use Rattle.standing_requests.proofs.request.Laws.{flag-start, flag-on, flag_off, flag-end}
use Rattle.standing_requests.proofs.request.flag_listed.Goals as goal
use Rattle.standing_requests.proofs.request.flag_listed.Goals.{then-x-flags, else-x-flags}

pub loop-x-init : goal.loop-x-init
loop-x-init c = flag-start c.args.l.now c.args.flags.now c.requires

pub loop-x-preserved : goal.loop-x-preserved
loop-x-preserved c =
    elim c.if-x-flags.branch [
      | then-x-flags w ↦ rw w.flags-is (flag-on c.loop-x.invariant (omega arith) (omega arith))
      | else-x-flags w ↦ rw w.flags-is (flag_off c.loop-x.invariant (omega arith) (omega arith))
    ]

pub returns : goal.returns
returns c = flag-end c.loop-x.invariant (omega arith)
