-- What `all` and `fold` make of a slice, in our words. Assumes nothing.
use Rattle.std.proofs.Common.{◌≡◌, ℕ, zero, suc, ◌≤◌, List, length, take, refl, arith, add-one}
use Rattle.std.specs.List.{list_all, fold}
use Rattle.std.proofs.lemmas.List.Folds.{list_all_more}
use Rattle.std.proofs.lemmas.List.Sums.{fold_more}
use lib.Ieee.{Float, nan}
use lib.Seq.{take_all}
use Rattle.numbers.specs.Double.{finite, finite_to, all_finite, max_of, abs_of, amax_to, amax_of, 0·0}

finite-front : (v : List Float) (n : ℕ) → n ≤ length v → list_all finite (take n v) ≡ finite_to v n
unfolding finite_to
finite-front v zero h = refl
finite-front v (suc n) h = rw (← add-one n, list_all_more finite v n nan h, finite-front v n (omega arith))

pub all_are : (v : List Float) → list_all finite v ≡ all_finite v
all_are v = let h : length v ≤ length v = omega arith in rw take_all at (finite-front v (length v) (omega arith))

abbrev pub larger : Float → Float → Float
larger m x = max_of m (abs_of x)

largest-front : (v : List Float) (n : ℕ) → n ≤ length v → fold larger 0·0 (take n v) ≡ amax_to v n
unfolding amax_to
largest-front v zero h = refl
largest-front v (suc n) h = rw (← add-one n, fold_more larger 0·0 v n nan h, largest-front v n (omega arith))

pub largest_is : (v : List Float) → fold larger 0·0 v ≡ amax_of v
largest_is v = let h : length v ≤ length v = omega arith in rw take_all at (largest-front v (length v) (omega arith))
