use mathlib.Core.Path.{◌≡◌}
use lib.ListN.{length, take, drop}
use Rattle.model_lists.specs.Lent.{all_bytes}
use Rattle.model_lists.proofs.lent.narrow.Given as goal

abbrev pub invariant-loop-k : goal.invariant-loop-k
invariant-loop-k l = (length l.bytes ≡ 32) × (take l.k l.bytes ≡ take l.k l.s) × (all_bytes (drop l.k (take 32 l.s)) ≡ all_bytes (take 32 l.s))
