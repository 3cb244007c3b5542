-- What the laws of the transfer log speak of. Definitions only.
use Rattle.std.specs.Prelude.{List, [], ◌++◌, ◌∷◌, ℕ, ◌+◌, ◌<◌, T, get_or, Ok, Err, Float}
use Rattle.std.specs.Float.{nan, binary64}
use Rattle.std.specs.Float.Ieee.{fits}
use Rattle.log_samples.specs.Sample.{Sample}
use Rattle.log_reading.specs.Log.{Reading}

-- what a slice of bytes holds, and one of doubles
abbrev pub Bytes : List ℕ → Type 0
Bytes s = (i : ℕ) → get_or s i 0 < 256

abbrev pub Doubles : List Float → Type 0
Doubles xs = (i : ℕ) → T (fits binary64 (get_or xs i nan))

-- no sample
abbrev pub none : Sample
none = record { numbers = [] }

-- the numbers of samples in a row
unfoldable pub joined : List Sample → List Float
joined [] = []
joined (x ∷ l) = x.numbers ++ joined l

-- the same reading, with the first sample n bytes further on
unfoldable pub moved : ℕ → Reading → Reading
moved n (Ok g) = Ok (record { a = g.a; count = g.count; first = n + g.first })
moved n (Err r) = Err r
