-- The rotors of a model that the builder accepts. Assumes nothing.
use mathlib.Core.Bool.{Bool, true, false, not, cond}
use mathlib.Core.List.{List}
use mathlib.Core.Logic.{◌⊎◌, ⊎_elim}
use mathlib.Core.Path.{◌≡◌, refl, ap, ◌∙◌}
use Prim.Native.Nat.{ℕ, ◌<◌, ◌≤◌}
use native.Mathlib.Omega.{arith}
use borrow.Author.Tests.{lt-ltb, le-ltb, eq-eqb, ne_eqb, not-false}
use lib.Dec.{ltb}
use Rattle.std.proofs.lemmas.Bool.{or_parts}
use lib.Ieee.{Float, lt, nan}
use Rattle.numbers.specs.Double.{0·0, finite}
use Rattle.numbers.proofs.Tables.{get_or-tab}
use Rattle.refusals.specs.Refusals.{fine}
use Rattle.arm.specs.Model.{kind_of, rotor_of}
use Rattle.builder.specs.Checks.{bad_row, rotor_is, bad_numbers, bad_rotor}
use Rattle.builder.specs.Build.{slot_by, rotor_slot, rotor_slots, model_of, built_of}
use Rattle.builder.proofs.build.Passed.{sized, passed}

either_way : {A : Type 0} (b : Bool) (x : A) → cond b x x ≡ x
either_way true x = refl
either_way false x = refl

-- what a test that finds nothing says of an active joint's rotor
active-false : (test : Float → Bool) (kinds : List ℕ) (rotors : List Float) (j : ℕ) → (kind_of kinds j ≡ 2 → ⊥) → rotor_is test kinds rotors j ≡ false → test (rotor_of rotors j) ≡ false
active-false test kinds rotors j f e = simp (ne_eqb (kind_of kinds j) 2 f) at e

module _ (n : ℕ) (parents kinds : List ℕ) (origins axes links rotors : List Float) (e : (built_of n parents kinds origins axes links rotors).verdict ≡ fine) (j : ℕ) where
  slot : j < 32 → rotor_of (built_of n parents kinds origins axes links rotors).model.rotors j ≡ slot_by 0·0 n (rotor_slot kinds rotors) j
  unfolding built_of model_of rotor_slots
  slot h = simp e (get_or-tab (slot_by 0·0 n (rotor_slot kinds rotors)) nan 32 j h)

  -- a fixed joint has none, and nothing is past the joints
  pub no-rotor-fixed : (kind_of kinds j ≡ 2) ⊎ (n ≤ j) → j < 32 → rotor_of (built_of n parents kinds origins axes links rotors).model.rotors j ≡ 0·0
  unfolding rotor_slot
  no-rotor-fixed f h = slot h ∙ ⊎_elim (λ q. simp (eq-eqb (kind_of kinds j) 2 q) (either_way (ltb j n) 0·0)) (λ q. simp (le-ltb j n q)) f

  module _ (h : j < n) (f : kind_of kinds j ≡ 2 → ⊥) where
    -- an active joint's is as handed in
    pub rotor-kept : rotor_of (built_of n parents kinds origins axes links rotors).model.rotors j ≡ rotor_of rotors j
    unfolding built_of rotor_slot
    rotor-kept = slot (omega (arith, (sized n parents kinds origins axes links rotors e).0.few)) ∙ simp (lt-ltb j n h, ne_eqb (kind_of kinds j) 2 f)

    -- it is finite
    pub rotor-finite : finite (rotor_of (built_of n parents kinds origins axes links rotors).model.rotors j) ≡ true
    unfolding built_of bad_numbers
    rotor-finite =
        let numbers = or_parts (bad_row 7 origins j) _ ((passed n parents kinds origins axes links rotors e).numbers j h) in
        ap finite rotor-kept ∙ not-false _ (active-false (λ x. not (finite x)) kinds rotors j f numbers.1)

    -- and not below zero
    pub no-rotor-below-zero : lt (rotor_of (built_of n parents kinds origins axes links rotors).model.rotors j) 0·0 ≡ false
    unfolding built_of bad_rotor
    no-rotor-below-zero = ap (λ x. lt x 0·0) rotor-kept ∙ active-false (λ x. lt x 0·0) kinds rotors j f ((passed n parents kinds origins axes links rotors e).rotor j h)
