-- What a check that passed tells. Assumes nothing.
use mathlib.Core.Bool.{Bool, true, false, not, ◌&&◌, true≢false}
use mathlib.Core.List.{List}
use mathlib.Core.Path.{◌≡◌}
use Prim.Native.Nat.{ℕ, ◌≤◌, ◌<◌}
use borrow.Author.Tests.{ltb-false, leb-false, eqb-true, not-false}
use lib.Dec.{eqb, leb, ltb}
use lib.ListN.{length}
use lib.Ieee.{Float}
use Rattle.refusals.specs.Refusals.{fine, plain_of}
use Rattle.refusals.proofs.Verdicts.{plain-fine, both-fine}
use Rattle.arm.specs.Topology.{actives_of}
-- 9
pub use Rattle.arm.proofs.model.Known.{tame}
use Rattle.calls.specs.Checks.{values_verdict}
use Rattle.calls.specs.Position.{visits_of, position_verdict}
use Rattle.calls.specs.declared.position.Position.{Position}

-- a length that is not short, and one that is as wanted
pub not_short : (number a b : ℕ) → plain_of number (ltb a b) ≡ fine → b ≤ a
not_short number a b e = ltb-false a b (plain-fine number (ltb a b) e)

pub as_wanted : (number a b : ℕ) → plain_of number (not (eqb a b)) ≡ fine → a ≡ b
as_wanted number a b e = eqb-true a b (not-false (eqb a b) (plain-fine number (not (eqb a b)) e))

-- 11 or 14
pub counted : (number other : ℕ) (kinds : List ℕ) (n : ℕ) (q : List Float) → values_verdict number other kinds n q ≡ fine → length q ≡ actives_of kinds n
unfolding values_verdict
counted number other kinds n q e = as_wanted number (length q) (actives_of kinds n) (both-fine _ _ e).0

-- 23 and 24: the position is open, and has a visit left
pub still_open : (matrix floating : Bool) (n a : ℕ) (p : Position) → position_verdict matrix floating n a p ≡ fine → (p.closed ≡ false) × (p.visits < visits_of matrix n a)
unfolding position_verdict
still_open matrix floating n a p e =
    let f = both-fine _ _ (both-fine _ _ e).1 in
    let c = plain-fine 24 p.closed f.1 in
    (c, left p.closed (visits_of matrix n a) p.visits c (plain-fine 23 (not p.closed && leb (visits_of matrix n a) p.visits) f.0))
  where
    left : (b : Bool) (t v : ℕ) → b ≡ false → (not b && leb t v) ≡ false → v < t
    left true t v c e = absurd (true≢false c)
    left false t v c e = leb-false t v e
