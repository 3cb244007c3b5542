-- What a lent buffer holds before the call. Definitions only.
use Rattle.std.specs.Prelude.{List, ℕ, Float, replicate}
use Rattle.numbers.specs.Double.{1·0}

abbrev pub ones : ℕ → List Float
ones n = replicate n 1·0
