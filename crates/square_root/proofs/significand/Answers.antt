use borrow.Author.Tests.{lt-ltb, le-ltb}
use Rattle.square_root.proofs.significand.Goals as goal

pub returns-then-b-lt4503599627370496 : goal.returns-then-b-lt4503599627370496
returns-then-b-lt4503599627370496 c = simp (lt-ltb _ _ c.if-b-lt4503599627370496.true)

pub returns : goal.returns
returns c = simp (le-ltb _ _ c.if-b-lt4503599627370496.false)
