-- What the checks tell the builder where they refuse nothing. Assumes nothing.
use mathlib.Core.Bool.{false}
use mathlib.Core.List.{List}
use mathlib.Core.Path.{◌≡◌}
use Prim.Native.Nat.{ℕ, ◌+◌, ◌<◌}
use borrow.Author.Tests.{ltb-false}
use lib.Dec.{ltb}
use lib.ListN.{length}
use lib.Ieee.{Float}
use Rattle.refusals.specs.Refusals.{fine, lowest, named_of, plain_of, or_else}
use Rattle.refusals.proofs.Searches.{lowest-none}
use Rattle.refusals.proofs.Verdicts.{named-fine, both-fine}
use Rattle.arm.specs.Model.{bad_parent, bad_kind}
use Rattle.builder.specs.Checks.{Sized, bad_axis, bad_row, bad_numbers, bad_rotation, bad_mass, bad_rotor, lists_verdict, verdict_of}
use Rattle.builder.specs.Build.{Listed}
use Rattle.builder.proofs.checks.Lengths.{sized-passed}

-- no joint or link is refused
pub record Passed (n : ℕ) (parents kinds : List ℕ) (origins axes links rotors : List Float) : Type 0 where
  pub parent : (j : ℕ) → j < n → bad_parent parents j ≡ false
  pub kind : (j : ℕ) → j < n → bad_kind kinds j ≡ false
  pub numbers : (j : ℕ) → j < n → bad_numbers kinds origins rotors j ≡ false
  pub mass : (l : ℕ) → l < n + 1 → bad_mass links l ≡ false
  pub rotor : (j : ℕ) → j < n → bad_rotor kinds rotors j ≡ false

module _ (n : ℕ) (parents kinds : List ℕ) (origins axes links rotors : List Float) (e : verdict_of n parents kinds origins axes links rotors ≡ fine) where
  -- 1 and 2, and what comes behind them
  pub sized : Sized n (length parents) (length kinds) (length origins) (length axes) (length links) (length rotors) × (lists_verdict n parents kinds origins axes links rotors ≡ fine)
  unfolding verdict_of
  sized =
      let v1 = both-fine (plain_of 1 (ltb 32 n)) _ e in
      let v2 = both-fine (plain_of 2 _) (lists_verdict n parents kinds origins axes links rotors) v1.1 in
      (sized-passed n (length parents) (length kinds) (length origins) (length axes) (length links) (length rotors) v1.0 v2.0, v2.1)

  -- 3 to 8 and 26
  pub passed : Passed n parents kinds origins axes links rotors
  unfolding lists_verdict
  passed =
      let v3 = both-fine (named_of 3 (lowest (bad_parent parents) n)) _ sized.1 in
      let v4 = both-fine (named_of 4 (lowest (bad_kind kinds) n)) _ v3.1 in
      let v5 = both-fine (named_of 5 (lowest (bad_axis kinds axes) n)) _ v4.1 in
      let joint6 = named_of 6 (lowest (bad_numbers kinds origins rotors) n) in
      let v6 = both-fine (or_else joint6 (named_of 6 (lowest (bad_row 10 links) (n + 1)))) _ v5.1 in
      let v7 = both-fine (named_of 7 (lowest (bad_rotation origins) n)) _ v6.1 in
      let v8 = both-fine (named_of 8 (lowest (bad_mass links) (n + 1))) _ v7.1 in
      record {
        parent = lowest-none (bad_parent parents) n (named-fine 3 _ v3.0);
        kind = lowest-none (bad_kind kinds) n (named-fine 4 _ v4.0);
        numbers = lowest-none (bad_numbers kinds origins rotors) n (named-fine 6 _ (both-fine joint6 _ v6.0).0);
        mass = lowest-none (bad_mass links) (n + 1) (named-fine 8 _ v8.0);
        rotor = lowest-none (bad_rotor kinds rotors) n (named-fine 26 _ v8.1);
      }

  -- 3 and 4
  pub listed : Listed n parents kinds (length axes) (length rotors)
  listed =
      let s = sized.0 in
      record {
        good =
            record {
              tree = record { few = s.few; below = λ j h. ltb-false _ _ (passed.parent j h) };
              known = λ j h. ltb-false _ _ (passed.kind j h);
            };
        one_parent = s.one_parent;
        one-kind = s.one-kind;
        three = s.three;
        one-rotor = s.one-rotor;
      }
