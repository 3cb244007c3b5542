-- NUMBER k OF SAMPLE i, as `number_at` answers it, is that of the samples. Assumes nothing.
use mathlib.Core.Bool.{true}
use mathlib.Core.List.{List}
use mathlib.Core.Path.{◌≡◌, sym, subst}
use Prim.Native.Nat.{ℕ, ◌+◌, ◌*◌, ◌≤◌, ◌<◌}
use native.Mathlib.Nat.{mul-le-mul_left}
use native.Mathlib.Numerals.{add-one}
use native.Mathlib.Omega.{arith}
use lib.ListN.{length, get_or, drop}
use lib.Seq.{drop-drop}
use lib.Ieee.{nan}
use borrow.Author.Tests.{lt-ltb}
use Rattle.log_samples.specs.Sample.{size_of}
use Rattle.log_samples.proofs.Laws.{sample-at}
use Rattle.log_reading.specs.Log.{trailer_in, log_in, reading_of, samples_at, stands_at, holds, value_of}
use Rattle.log_reading.specs.declared.Log.{Log}
use Rattle.log_reading.specs.declared.Trailer.{Trailer}
use Rattle.std.specs.Prelude.{Some, Ok}
use Rattle.log_reading.proofs.Laws.{Fits, is_held, first-is}
use Rattle.log_reading.proofs.Within.{taken}
use Rattle.log_claims.specs.Log.{none}

module _ (s : List ℕ) (g : Log) (i k : ℕ) where
  value-at : holds (length s) g i ≡ true → i < g.count → k < 3 * g.a
      → value_of s g i k ≡ Some (get_or (get_or (samples_at s g) i none).numbers k nan)
  unfolding value_of samples_at stands_at
  value-at h b l =
      rw (h, lt-ltb _ _ l, sample-at (size_of g.a) g.a g.count i (drop g.first s) none b, drop-drop (size_of g.a * i) g.first s)

module _ (s : List ℕ) (t : Trailer) (f : Fits (length s) t) (i : ℕ) (b : i < t.count) where
  held : holds (length s) (log_in s t) i ≡ true
  unfolding log_in
  held =
      let S = size_of t.a in
      let m : S * (i + 1) ≤ S * t.count = mul-le-mul_left S (rw (add-one i) b) in
      let x = S * t.count in
      let y = S * (i + 1) in
      is_held (length s) (log_in s t) i f.joints f.few b (omega (arith, first-is s t, f.distance, f.within))

pub values : (s : List ℕ) (g : Log) (i k : ℕ) → reading_of s ≡ Ok g → i < g.count → k < 3 * g.a
    → value_of s g i k ≡ Some (get_or (get_or (samples_at s g) i none).numbers k nan)
unfolding log_in
values s g i k e b l =
    let w = taken s g e in
    let c : i < (log_in s (trailer_in s)).count = subst (λ (h : Log). i < h.count) (sym w.log) b in
    value-at s g i k (subst (λ (h : Log). holds (length s) h i ≡ true) w.log (held s (trailer_in s) w.fits i c)) b l
