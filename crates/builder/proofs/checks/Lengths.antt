-- Lists as long as they should be. Assumes nothing.
use mathlib.Core.Bool.{true, not, ◌&&◌}
use mathlib.Core.Path.{◌≡◌}
use Prim.Native.Nat.{ℕ, ◌+◌, ◌*◌, ◌≤◌}
use borrow.Author.Tests.{ltb-false, eqb-true, not-false}
use lib.Dec.{eqb, ltb}
use Rattle.std.proofs.lemmas.Bool.{and_parts}
use Rattle.refusals.specs.Refusals.{fine, plain_of}
use Rattle.refusals.proofs.Verdicts.{plain-fine}
use Rattle.builder.specs.Checks.{sized_by, Sized}

sized-true : (n parents kinds origins axes links rotors : ℕ) → n ≤ 32 → sized_by n parents kinds origins axes links rotors ≡ true → Sized n parents kinds origins axes links rotors
unfolding sized_by
sized-true n parents kinds origins axes links rotors h e =
    let r = and_parts (eqb parents n && eqb kinds n && eqb origins (n * 7) && eqb axes (n * 3) && eqb links ((n + 1) * 10)) (eqb rotors n) e in
    let d = and_parts (eqb parents n && eqb kinds n && eqb origins (n * 7) && eqb axes (n * 3)) (eqb links ((n + 1) * 10)) r.0 in
    let c = and_parts (eqb parents n && eqb kinds n && eqb origins (n * 7)) (eqb axes (n * 3)) d.0 in
    let b = and_parts (eqb parents n && eqb kinds n) (eqb origins (n * 7)) c.0 in
    let a = and_parts (eqb parents n) (eqb kinds n) b.0 in
    record {
      few = h;
      one_parent = eqb-true _ _ a.0;
      one-kind = eqb-true _ _ a.1;
      seven = eqb-true _ _ b.1;
      three = eqb-true _ _ c.1;
      ten = eqb-true _ _ d.1;
      one-rotor = eqb-true _ _ r.1;
    }

-- where 1 and 2 have passed
pub sized-passed : (n parents kinds origins axes links rotors : ℕ) → plain_of 1 (ltb 32 n) ≡ fine → plain_of 2 (not (sized_by n parents kinds origins axes links rotors)) ≡ fine
    → Sized n parents kinds origins axes links rotors
sized-passed n parents kinds origins axes links rotors e f =
    sized-true n parents kinds origins axes links rotors (ltb-false 32 n (plain-fine 1 _ e)) (not-false _ (plain-fine 2 _ f))
