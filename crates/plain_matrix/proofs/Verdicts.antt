-- What the plain engine's checks have shown. Assumes nothing.
use mathlib.Core.Bool.{Bool}
use mathlib.Core.List.{List}
use mathlib.Core.Path.{◌≡◌, ◌∙◌}
use Prim.Native.Nat.{ℕ, ◌+◌, ◌*◌, ◌≤◌}
use native.Mathlib.Omega.{arith}
use borrow.Author.Tests.{le-ltb}
use lib.ListN.{length}
use lib.Ieee.{Float}
use Rattle.numbers.specs.declared.quaternion.Quaternion.{Quaternion}
use Rattle.refusals.specs.Refusals.{plain_of, or_else, fine}
use Rattle.arm.specs.Model.{Good}
use Rattle.arm.specs.Topology.{actives_of, active_numbers}
use Rattle.arm.proofs.topology.Counts.{actives-le}
use Rattle.calls.specs.Plan.{plan_by, plan_of}
use Rattle.calls.specs.declared.plan.Plan.{Plan}
use Rattle.composites.specs.Plan.{matrix_place}
use Rattle.mass_matrix.specs.Checks.{inputs_verdict}
use Rattle.mass_matrix.specs.MassMatrix.{Ready}
use Rattle.mass_matrix.proofs.Ready.{passed-good, plan-ready}
use Rattle.plain_matrix.specs.PlainMatrix.{plain_verdict}

module _ (floating : Bool) (r : Quaternion) (n : ℕ) (parents kinds : List ℕ) (q : List Float) (out : ℕ) where
  -- they are the fast engine's, lent the workspace that it asks for
  abbrev pub room : ℕ
  room = matrix_place n + (plan_of floating n kinds).side * (plan_of floating n kinds).side

  with-room : inputs_verdict floating r n parents kinds q room out ≡ plain_verdict floating r n parents kinds q out
  unfolding inputs_verdict plain_verdict plain_of or_else
  with-room = rw (le-ltb room room (omega arith))

  module _ (v : plain_verdict floating r n parents kinds q out ≡ fine) where
    pub passed : Good n parents kinds
    passed = passed-good floating r n parents kinds q room out (with-room ∙ v)

    pub few : (a : ℕ) → a ≡ actives_of kinds n → a ≤ 32
    few a e = omega (arith, e, actives-le kinds n, passed.tree.few)

    -- and show as much
    pub ready : (numbers : List ℕ) → numbers ≡ active_numbers kinds → {p : Plan} (a : ℕ) → a ≡ actives_of kinds n → p ≡ plan_by floating n a → Ready p parents kinds numbers (length q) room out
    ready numbers d {p = p} a ea ep = plan-ready floating r n parents kinds q room out (with-room ∙ v) numbers a p d ea ep
