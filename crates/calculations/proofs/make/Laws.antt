-- A calculation's portions one by one, and its repetitions. Assumes nothing.
use mathlib.Core.Path.{◌≡◌, refl}
use mathlib.Core.List.{List, [], ◌∷◌, ◌++◌, append_assoc, append-nil}
use Prim.Native.Nat.{ℕ, suc, ◌+◌, ◌-◌, ◌≤◌, ◌<◌}
use native.Mathlib.Numerals.{add-one}
use native.Mathlib.Omega.{arith}
use lib.ListN.{length, get_or, take, drop, set, drop_of_length-le}
use lib.Seq.{drop-cons, take-suc-set}
use lib.Ieee.{Float}
use Rattle.calls.specs.Position.{Work, Result, iterate, start_of, portion_of, whole_of}
use Rattle.calculations.specs.Make.{Made, counts_from, portions_from, undivided, begun_in, once_of}

-- after k portions: the counts so far and those to come, and the end
abbrev pub after : Work → List ℕ → ℕ → List ℕ → Result → Made
after w budgets k counts r = (take k counts ++ counts_from w (drop k budgets) r, portions_from w (drop k budgets) r)

module _ (w : Work) (budgets : List ℕ) (k : ℕ) (counts : List ℕ) (r : Result) where
  pub portion_on : {s : Result} → k < length budgets → k < length counts → s ≡ portion_of w (get_or budgets k 0) r.0.position r.1 r.2
      → after w budgets (k + 1) (set counts k s.0.visits) s ≡ after w budgets k counts r
  unfolding counts_from portions_from
  portion_on h l e = rw (add-one k, drop-cons budgets k 0 h, take-suc-set counts k _ l, append_assoc, e)

  pub portions_end : k ≡ length budgets → (take (length budgets) counts, r) ≡ after w budgets k counts r
  unfolding counts_from portions_from
  portions_end e = let h : length budgets ≤ k = omega arith in rw (← e, drop_of_length-le budgets h, append-nil)

-- ---- once
module _ (w : Work) (ws out : List Float) where
  pub once_whole : (budgets : List ℕ) → length budgets ≡ 0 → once_of w budgets ws out ≡ undivided (whole_of w ws out)
  unfolding once_of
  once_whole [] h = refl
  once_whole (b ∷ more) h = absurd (omega arith)

  pub once_begun : (budgets : List ℕ) → (length budgets ≡ 0 → ⊥) → begun_in w budgets (start_of w ws out) ≡ once_of w budgets ws out
  unfolding once_of
  once_begun [] h = absurd (h refl)
  once_begun (b ∷ more) h = refl

pub first_count : (counts : List ℕ) (v : ℕ) → 0 < length counts → take 1 (set counts 0 v) ≡ v ∷ []
first_count counts v h = take-suc-set counts 0 v h

-- ---- many times: so many are made, this one next
pub again_on : (f : Made → Made) (count at : ℕ) (d : Made) → at < count → iterate f (count - at) d ≡ iterate f (count - (at + 1)) (f d)
unfolding iterate
again_on f count at d h = let e : count - at ≡ suc (count - (at + 1)) = omega arith in rw e

pub again_end : (f : Made → Made) (count at : ℕ) (d : Made) → count ≤ at → iterate f (count - at) d ≡ d
unfolding iterate
again_end f count at d h = let e : count - at ≡ 0 = omega arith in rw e
