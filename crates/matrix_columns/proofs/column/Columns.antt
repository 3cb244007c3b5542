-- A column, put together from its calls. Assumes nothing.
use mathlib.Core.List.{List}
use mathlib.Core.Path.{◌≡◌}
use Prim.Native.Nat.{ℕ, ◌+◌}
use borrow.Author.Tests.{eq-eqb, ne_eqb}
use lib.Ieee.{Float}
use Rattle.numbers.specs.declared.quaternion.Quaternion.{Quaternion}
use Rattle.spatial.specs.Wrench.{rotated_of}
use Rattle.spatial.specs.declared.wrench.Wrench.{Wrench}
use Rattle.arm.specs.Model.{motion_of, rotor_of}
use Rattle.arm.specs.Topology.{actives_of}
use Rattle.arm.specs.declared.joint.Motion.{Motion}
use Rattle.arm.specs.declared.model.Link.{Link}
use Rattle.composites.specs.Composite.{composite_at, force_of}
use Rattle.composites.specs.Plan.{composite_place, put_six, add_rotor}
use Rattle.matrix_columns.specs.Walk.{walk_of, base_rows, column_visit}
use Rattle.calls.specs.declared.plan.Plan.{Plan}

module _ (p : Plan) (r : Quaternion) (parents kinds : List ℕ) (axes rotors : List Float) (j : ℕ) (ws : List Float) {column : ℕ} {m : Motion} {l : Link} {f : Wrench} {walked mid : List Float}
    (e1 : column ≡ p.lead + actives_of kinds j) (e2 : m ≡ motion_of kinds axes j) (e3 : l ≡ composite_at ws (composite_place j)) (e4 : f ≡ force_of m l)
    (e5 : walked ≡ (walk_of p parents kinds axes column j (f, ws)).1) (e6 : mid ≡ add_rotor p column (rotor_of rotors j) walked) where
  walk_is : walk_of p parents kinds axes column j (f, ws) ≡ walk_of p parents kinds axes (p.lead + actives_of kinds j) j (force_of (motion_of kinds axes j) (composite_at ws (composite_place j)), ws)
  walk_is = rw (e4, e3, e2, e1)

  pub column-fixed : p.lead ≡ 0 → mid ≡ column_visit p r parents kinds axes rotors j ws
  unfolding column_visit base_rows
  column-fixed z = rw (eq-eqb p.lead 0 z, ← walk_is, e6, e5, e1)

  pub column-floats : {w : Wrench} {out : List Float} → (p.lead ≡ 0 → ⊥) → w ≡ (walk_of p parents kinds axes column j (f, ws)).0 → out ≡ put_six p column (rotated_of w r) mid
      → out ≡ column_visit p r parents kinds axes rotors j ws
  unfolding column_visit base_rows
  column-floats z g h = rw (ne_eqb p.lead 0 z, ← walk_is, h, g, e6, e5, e1)
