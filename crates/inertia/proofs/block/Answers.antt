use native.Mathlib.Nat.{add-zero, add_assoc}
use Rattle.inertia.specs.Inertia.{block_of}
use Rattle.inertia.proofs.block.Goals as goal

pub returns : goal.returns
unfolding block_of
returns c = simp (add-zero, add_assoc)
