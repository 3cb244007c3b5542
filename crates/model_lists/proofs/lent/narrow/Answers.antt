-- `lent::narrow` meets its contract. The first k numbers are copied, and the bytes left decide.
use mathlib.Core.Path.{◌≡◌, sym, ◌∙◌}
use mathlib.Core.List.{List}
use Prim.Native.Nat.{ℕ}
use native.Mathlib.Omega.{arith}
use lib.Seq.{take_all}
use borrow.Author.Rules.{rules}
use Rattle.std.proofs.Common.{Some}
use Rattle.model_lists.proofs.lent.Lists.{bytes_on, bytes-off, bytes-end, copied, none-by, some-by}
use Rattle.model_lists.proofs.lent.narrow.Goals as goal

pub returns-then-s-k-gt255 : goal.returns-then-s-k-gt255
returns-then-s-k-gt255 c = none-by _ (bytes-off c.args.s.now 32 c.loop-k.k (search rules) (omega arith) (omega arith) ∙ c.loop-k.invariant.2)

pub loop-k-preserved : goal.loop-k-preserved
loop-k-preserved c = (
  search rules,
  copied c.loop-k.bytes c.args.s.now c.loop-k.k (omega arith) (omega arith) c.loop-k.invariant.1,
  bytes_on c.args.s.now 32 c.loop-k.k (search rules) (omega arith) (omega arith) ∙ c.loop-k.invariant.2,
)

pub returns : goal.returns
returns c =
    let e : c.loop-k.k ≡ 32 = omega arith in
    some-by _ _ (bytes-end c.args.s.now 32 _ c.requires (omega arith) ∙ c.loop-k.invariant.2) (sym (take_all 32 c.loop-k.bytes (omega arith)) ∙ rw e at c.loop-k.invariant.1)
