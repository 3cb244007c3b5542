-- A LEAD-IN OF ANY BYTES changes nothing in the answer but where the first sample stands. Assumes nothing.
use mathlib.Core.Path.{◌≡◌, refl}
use mathlib.Core.List.{List, ◌++◌}
use Prim.Native.Nat.{ℕ, ◌+◌, ◌-◌, ◌≤◌}
use native.Mathlib.Omega.{arith}
use lib.ListN.{length, drop, length-append}
use lib.Seq.{drop-append-add}
use borrow.Author.Tests.{le-ltb, le-leb}
use Rattle.std.specs.Prelude.{Ok, Err}
use Rattle.refusals.specs.Refusals.{Verdict}
use Rattle.log_reading.specs.Log.{trailer_in, is_distance, head_verdict, first_of, samples_in, read_verdict, reading_by, log_in, reading_of, samples_at}
use Rattle.log_reading.specs.declared.Log.{Log}
use Rattle.log_reading.specs.declared.Trailer.{Trailer}
use Rattle.log_claims.specs.Log.{moved}

module _ (lead s : List ℕ) (long : 16 ≤ length s) where
  past : (d : ℕ) → d ≤ length s → drop (length (lead ++ s) - d) (lead ++ s) ≡ drop (length s - d) s
  past d h =
      let e : length (lead ++ s) - d ≡ length lead + (length s - d) = omega (arith, length-append lead s) in
      rw e (drop-append-add lead s (length s - d))

  same-trailer : trailer_in (lead ++ s) ≡ trailer_in s
  unfolding trailer_in
  same-trailer = rw (past 16 long)

  module _ (t : Trailer) (within : t.distance ≤ length s) where
    same-head : head_verdict (length (lead ++ s)) t ≡ head_verdict (length s) t
    unfolding head_verdict is_distance
    same-head =
        rw (
          le-ltb (length (lead ++ s)) 16 (omega (arith, length-append lead s, long)),
          le-ltb (length s) 16 long,
          le-leb t.distance (length (lead ++ s)) (omega (arith, length-append lead s, within)),
          le-leb t.distance (length s) within,
        )

    same-samples : samples_in (lead ++ s) t ≡ samples_in s t
    unfolding samples_in first_of
    same-samples = rw (past t.distance within)

    same-verdict : read_verdict (lead ++ s) t ≡ read_verdict s t
    unfolding read_verdict
    same-verdict = rw (same-head, same-samples)

    further : log_in (lead ++ s) t ≡ record { a = (log_in s t).a; count = (log_in s t).count; first = length lead + (log_in s t).first }
    unfolding log_in first_of
    further = let e : length (lead ++ s) - t.distance ≡ length lead + (length s - t.distance) = omega (arith, length-append lead s) in rw e

    by : (v : Verdict) → reading_by v (log_in (lead ++ s) t) ≡ moved (length lead) (reading_by v (log_in s t))
    unfolding reading_by moved
    by (Ok u) = rw further
    by (Err r) = refl

  -- refusals too: at least 16 bytes, whose distance lies within them
  pub lead-in : (trailer_in s).distance ≤ length s → reading_of (lead ++ s) ≡ moved (length lead) (reading_of s)
  unfolding reading_of
  lead-in within = rw (same-trailer, same-verdict (trailer_in s) within) (by (trailer_in s) within (read_verdict s (trailer_in s)))

-- the samples are the same
pub lead-samples : (lead s : List ℕ) (g : Log) → samples_at (lead ++ s) (record { a = g.a; count = g.count; first = length lead + g.first }) ≡ samples_at s g
unfolding samples_at
lead-samples lead s g = rw (drop-append-add lead s g.first)
