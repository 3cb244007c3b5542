-- `Words::list` meets its contract. A list is its items, behind their number.
use mathlib.Core.Path.{◌≡◌, refl, ◌∙◌}
use native.Mathlib.Nat.{le_trans}
use native.Mathlib.Omega.{arith}
use lib.ListN.{length, take, drop, length-append}
use lib.Seq.{length-take-le, take_at}
use Rattle.words.specs.List.{list}
use Rattle.words.proofs.read.Words.list.Goals as goal

pub slice_bounds-fill-end : goal.slice_bounds-fill-end
slice_bounds-fill-end g c = le_trans (rw c.in_ok-n.was at c.size.ensures.1) c.requires

pub returns-in_err-fill : goal.returns-in_err-fill
unfolding list
returns-in_err-fill g c =
    let e : length (take c.in_ok-n.n c.args.into.now) ≡ c.in_ok-n.n = length-take-le _ _ (le_trans (rw c.in_ok-n.was at c.size.ensures.1) c.requires) in
    rw c.from_residual-in_err-fill.ensures ((rw (← (rw (c.copy-words.ensures, c.in_ok-n.was) at c.size.ensures.0.0)) (rw (e, c.in_err-fill.was) at c.fill.ensures.0), refl), tt)

pub returns : goal.returns
unfolding list
returns g c =
    let e : length (take c.in_ok-n.n c.args.into.now) ≡ c.in_ok-n.n = length-take-le _ _ (le_trans (rw c.in_ok-n.was at c.size.ensures.1) c.requires) in
    let d : length c.fill.new.into ≡ c.in_ok-n.n = c.fill.auto.into ∙ e in (
      (rw (take_at c.fill.new.into _ _ d, ← (rw (c.copy-words.ensures, c.in_ok-n.was) at c.size.ensures.0.0)) (rw (e, c.in_ok-fill.was) at c.fill.ensures.0), tt),
      omega (arith, d, length-append c.fill.new.into (drop c.in_ok-n.n c.args.into.now)),
    )
