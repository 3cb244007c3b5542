-- Where the entry between two active joints stands in the plain list: at two mirrored places. Assumes nothing.
use mathlib.Core.Bool.{Bool, true, false, cond}
use mathlib.Core.List.{List}
use mathlib.Core.Logic.{⊎_elim}
use mathlib.Core.Path.{◌≡◌, refl, ap, ap₂, ◌∙◌}
use Prim.Native.Nat.{ℕ, ◌+◌, ◌-◌, ◌*◌, ◌/◌, ◌%◌, ◌≤◌, ◌<◌}
use native.Mathlib.Nat.{mod-lt, div-add-mod', eq-or-lt_of_le}
use native.Mathlib.Omega.{arith}
use borrow.Author.Tests.{le-ltb, ltb-false}
use lib.Dec.{ltb}
use lib.ListN.{get_or}
use lib.Ieee.{nan}
use Rattle.numbers.proofs.Tables.{get_or-tab}
use Rattle.numbers.specs.declared.quaternion.Quaternion.{Quaternion}
use Rattle.arm.specs.Topology.{actives_of}
use Rattle.arm.proofs.topology.Counts.{actives-below}
use Rattle.calls.specs.declared.plan.Plan.{Plan}
use Rattle.composites.proofs.plan.Squares.{square}
use Rattle.composites.proofs.Entries.{same_place}
use Rattle.plain_entries.specs.Arm.{Arm}
use Rattle.plain_entries.specs.Entries.{entry_between}
use Rattle.matrix_columns.proofs.Walks.{Active, row_for, row_small, row_one}
use Rattle.plain_matrix.specs.PlainMatrix.{joint_with, joint_entry, entry_at, plain_entries}
use Rattle.plain_matrix.proofs.Roots.{with_number}

module _ (a : Arm) (p : Plan) (r : Quaternion) (kinds : List ℕ) (joints : a.n ≡ p.n) (sided : p.side ≡ p.lead + actives_of kinds p.n) where
  -- an entry of the list, by row and column
  entry_of : (row column : ℕ) → row < p.side → column < p.side → get_or (plain_entries a p r kinds) (column * p.side + row) nan ≡ entry_at a p.lead r kinds row column
  unfolding plain_entries
  entry_of row column h g =
      let t = column * p.side + row in
      let e = same_place p (t % p.side) (t / p.side) row column (mod-lt t (omega arith)) h (omega (arith, div-add-mod' t p.side)) in
      get_or-tab _ nan (p.side * p.side) t (square row column p.side h g) ∙ ap₂ (entry_at a p.lead r kinds) e.0 e.1

  -- an active joint is the one with its number
  again : (J : ℕ) → J < a.n → Active kinds J → joint_with kinds a.n (actives_of kinds J) ≡ J
  again J h f =
      let s = with_number kinds a.n (actives_of kinds J) (actives-below kinds a.n J h f) in
      row_one p kinds _ J s.active f (ap (λ (x : ℕ). p.lead + x) s.number)

  module _ (J I : ℕ) (h : J < a.n) (l : I ≤ J) (f : Active kinds J) (g : Active kinds I) where
    joint-row : (x y : ℕ) → entry_at a p.lead r kinds (p.lead + x) (p.lead + y) ≡ joint_entry a kinds x y
    unfolding entry_at
    joint-row x y =
        let ex : p.lead + x - p.lead ≡ x = omega arith in
        let ey : p.lead + y - p.lead ≡ y = omega arith in
        rw (le-ltb (p.lead + x) p.lead (omega arith), le-ltb (p.lead + y) p.lead (omega arith), ex, ey)

    rises : actives_of kinds I ≤ actives_of kinds J
    rises = ⊎_elim (λ (e : I ≡ J). omega (arith, ap (actives_of kinds) e)) (λ k. omega (arith, actives-below kinds J I k g)) (eq-or-lt_of_le l)

    entry_here : joint_entry a kinds (actives_of kinds I) (actives_of kinds J) ≡ entry_between a J I
    unfolding joint_entry
    entry_here = rw (le-ltb (actives_of kinds J) (actives_of kinds I) rises, again J h f, again I (omega arith) g)

    entry-there : joint_entry a kinds (actives_of kinds J) (actives_of kinds I) ≡ entry_between a J I
    unfolding joint_entry
    entry-there = rw (again J h f, again I (omega arith) g) (go (ltb (actives_of kinds I) (actives_of kinds J)) (ltb-false (actives_of kinds I) (actives_of kinds J)))
      where
        go : (b : Bool) → (b ≡ false → actives_of kinds J ≤ actives_of kinds I) → cond b (entry_between a J I) (entry_between a I J) ≡ entry_between a J I
        go true e = refl
        go false e =
            let same : actives_of kinds I ≡ actives_of kinds J = omega (arith, e refl, rises) in
            let d : I ≡ J = row_one p kinds I J g f (ap (λ (x : ℕ). p.lead + x) same) in
            rw d

    small : (K : ℕ) → K < a.n → Active kinds K → row_for p kinds K < p.side
    small K k = row_small p kinds sided K (omega arith)

    -- in J's column
    pub list-here : get_or (plain_entries a p r kinds) (row_for p kinds J * p.side + row_for p kinds I) nan ≡ entry_between a J I
    list-here = entry_of (row_for p kinds I) (row_for p kinds J) (small I (omega arith) g) (small J h f) ∙ joint-row (actives_of kinds I) (actives_of kinds J) ∙ entry_here

    -- and in I's
    pub list-there : get_or (plain_entries a p r kinds) (row_for p kinds I * p.side + row_for p kinds J) nan ≡ entry_between a J I
    list-there = entry_of (row_for p kinds J) (row_for p kinds I) (small J h f) (small I (omega arith) g) ∙ joint-row (actives_of kinds J) (actives_of kinds I) ∙ entry-there
