use Rattle.std.proofs.Common.{◌≡◌, refl, arith, add-one, length}
use Rattle.forward_slots.proofs.loads.Pass.{begun, ended, passed-by, taken-up}
use Rattle.forward_slots.proofs.loads.prepare_indexed_loads.Goals as goal
use Rattle.forward_slots.proofs.loads.prepare_indexed_loads.Goals.{then-link-n, else-link-n}

pub loop-k-init : goal.loop-k-init
loop-k-init c = rw c.zeros-root.ensures (begun c.args.n c.args.loaded.now c.args.loads.now _ c.args.ws.now c.requires.1 c.clear_loads.ensures)

pub loop-k-preserved : goal.loop-k-preserved
loop-k-preserved c =
    let L = c.loop-k in
    rw (add-one L.k) (elim c.if-link-n.branch [
      | then-link-n w ↦
          rw (w.root-is, w.any-is, w.ws-is)
          (taken-up c.args.n c.args.loaded.now c.args.loads.now _ L.k L.root L.any L.ws L.invariant _ refl w.if-link-n.true c.requires.1 (omega (arith, c.requires.2)) _ _ (rw w.wrench_at-w.ensures at w.add_load-root.ensures))
      | else-link-n w ↦ rw (w.root-is, w.any-is, w.ws-is) (passed-by c.args.n c.args.loaded.now c.args.loads.now _ L.k L.root L.any L.ws L.invariant w.if-link-n.false)
    ])

pub returns : goal.returns
returns c =
    let L = c.loop-k in
    let e : L.k ≡ length c.args.loaded.now = omega arith in
    ended c.args.n c.args.loaded.now c.args.loads.now _ c.args.ws.now c.clear_loads.ensures L.root L.any L.ws (rw e at L.invariant)
