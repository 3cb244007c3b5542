-- The masses of a model that the builder accepts. Assumes nothing.
use mathlib.Core.Bool.{false}
use mathlib.Core.List.{List}
use mathlib.Core.Path.{◌≡◌, ap, ◌∙◌}
use Prim.Native.Nat.{ℕ, ◌*◌, ◌<◌, ◌≤◌}
use native.Mathlib.Omega.{arith}
use borrow.Author.Tests.{lt-ltb}
use lib.ListN.{length, get_or}
use lib.Ieee.{Float, lt, nan}
use Rattle.numbers.specs.Double.{0·0}
use Rattle.numbers.proofs.Tables.{get_or-tab}
use Rattle.refusals.specs.Refusals.{fine}
use Rattle.arm.specs.Model.{link_of}
use Rattle.builder.specs.Checks.{bad_mass}
use Rattle.builder.specs.Build.{double_slots, model_of, built_of}
use Rattle.builder.proofs.build.Passed.{sized, passed}

-- a number handed in is in its slot
slot_kept : (s : List Float) (size t : ℕ) → t < size → t < length s → get_or (double_slots s size) t nan ≡ get_or s t nan
unfolding double_slots
slot_kept s size t h g = get_or-tab _ nan size t h ∙ simp (lt-ltb _ _ g)

-- none is below zero
pub no-mass-below-zero : (n : ℕ) (parents kinds : List ℕ) (origins axes links rotors : List Float) → (built_of n parents kinds origins axes links rotors).verdict ≡ fine → (l : ℕ) → l ≤ n
    → bad_mass (built_of n parents kinds origins axes links rotors).model.links l ≡ false
unfolding built_of model_of bad_mass link_of
no-mass-below-zero n parents kinds origins axes links rotors e l h =
    let s = (sized n parents kinds origins axes links rotors e).0 in
    let kept = slot_kept links 330 (l * 10) (omega (arith, s.few)) (omega (arith, s.ten)) in
    simp e (ap (λ m. lt m 0·0) kept ∙ (passed n parents kinds origins axes links rotors e).mass l (omega arith))
