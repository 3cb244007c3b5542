use mathlib.Core.Path.{◌≡◌}
use Prim.Native.Nat.{◌^◌, ◌≤◌, ◌<◌}
use lib.ListN.{length, drop}
use Rattle.words.specs.Read.{read_from, number_of}
use Rattle.words.proofs.read.number_of.Given as goal

abbrev pub invariant-loop-b : goal.invariant-loop-b
invariant-loop-b l = (length l.w ≤ 16) × (l.v < 16 ^ l.b-index) × (read_from l.v (drop l.b-index l.w) ≡ number_of l.w)
