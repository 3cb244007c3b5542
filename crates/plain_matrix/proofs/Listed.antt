-- The plain list by its numbers, as the code goes through it. Assumes nothing.
use mathlib.Core.List.{List}
use mathlib.Core.Path.{◌≡◌, refl, sym, ap, ◌∙◌}
use Prim.Native.Nat.{ℕ, zero, suc, ◌*◌, ◌/◌, ◌%◌, ◌≤◌, ◌<◌}
use native.Mathlib.Nat.{mod-lt, div-lt_iff_lt-mul}
use native.Mathlib.Omega.{arith}
use native.Mathlib.Numerals.{add-one}
use lib.ListN.{length, get_or, take}
use lib.Seq.{take_all}
use lib.Ieee.{Float, nan}
use Rattle.std.specs.List.{list_all, range_with_len}
use Rattle.std.proofs.lemmas.List.Folds.{list_all_more, list_all-map}
use Rattle.std.proofs.lemmas.List.FromFn.{fill_by_all}
use Rattle.numbers.specs.Double.{finite, finite_to, all_finite}
use Rattle.numbers.specs.Table.{tab}
use Rattle.numbers.proofs.Tables.{length-tab, get_or-tab}
use Rattle.numbers.specs.declared.quaternion.Quaternion.{Quaternion}
use Rattle.calls.specs.declared.plan.Plan.{Plan}
use Rattle.plain_entries.specs.Arm.{Arm}
use Rattle.plain_matrix.specs.PlainMatrix.{plain_number, plain_entries}

-- number t of a square lies in a row and a column of it
pub in-square : (side t : ℕ) → t < side * side → (t % side < side) × (t / side < side) × (0 < side)
in-square zero t h = absurd (omega arith)
in-square (suc s) t h = (mod-lt t (omega arith), (div-lt_iff_lt-mul {k = suc s} {x = t} {y = suc s} (omega arith)).1 h, omega arith)

-- the numbers of a table, each asked
finite-front : (v : List Float) (n : ℕ) → n ≤ length v → list_all finite (take n v) ≡ finite_to v n
unfolding finite_to
finite-front v zero h = refl
finite-front v (suc n) h = rw (← add-one n, list_all_more finite v n nan h, finite-front v n (omega arith))

finite-all : (v : List Float) → list_all finite v ≡ all_finite v
finite-all v = let h : length v ≤ length v = omega arith in rw take_all at (finite-front v (length v) (omega arith))

pub all_listed : (f : ℕ → Float) (n : ℕ) → list_all (λ t. finite (f t)) (range_with_len 0 n) ≡ all_finite (tab f n)
all_listed f n =
    sym (list_all-map finite f (range_with_len 0 n))
    ∙ ap (list_all finite) (sym (fill_by_all f (tab f n) n nan (length-tab f n) (λ k h. get_or-tab f nan n k h)))
    ∙ finite-all (tab f n)

module _ (a : Arm) (p : Plan) (r : Quaternion) (kinds : List ℕ) where
  pub length-entries : length (plain_entries a p r kinds) ≡ p.side * p.side
  unfolding plain_entries
  length-entries = length-tab _ (p.side * p.side)

  pub number_is : (t : ℕ) → t < p.side * p.side → plain_number a p r kinds t ≡ get_or (plain_entries a p r kinds) t nan
  unfolding plain_entries
  number_is t h = sym (get_or-tab _ nan (p.side * p.side) t h)
