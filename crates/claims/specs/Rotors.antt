-- Two models that differ in their rotors alone, and the numbers of their matrices (document 02, item 11). Definitions only.
use Rattle.std.specs.Prelude.{List, ◌≡◌, ℕ, ◌+◌, ◌*◌, ◌<◌, Float}
use Rattle.arm.specs.Model.{bundle, kind_of, rotor_of}
use Rattle.arm.specs.Topology.{actives_of}
use Rattle.arm.specs.declared.model.Model.{Model}
use Rattle.calls.specs.Plan.{plan_of}
use Rattle.calls.specs.Position.{whole_of}
use Rattle.calls.specs.declared.position.Outcome.TheVariants.{Accepted}
use Rattle.mass_matrix.specs.MassMatrix.{mass_matrix, floats}
use Rattle.mass_matrix.specs.declared.mass_matrix.Mode.{Mode}

-- the model with these rotors
abbrev pub with_rotors : Model → List Float → Model
with_rotors m rotors = bundle m.n m.parents m.kinds m.origins m.axes m.links rotors

-- the undivided call of a matrix accepts
abbrev pub Accepts : Mode → Model → List Float → List Float → List Float → Type 0
Accepts mode m q ws out = (whole_of (mass_matrix mode m q) ws out).0.outcome ≡ Accepted

-- the matrix that it leaves in the output
abbrev pub matrix_of : Mode → Model → List Float → List Float → List Float → List Float
matrix_of mode m q ws out = (whole_of (mass_matrix mode m q) ws out).2

-- where in it joint j's diagonal entry stands
unfoldable pub diagonal_of : Mode → Model → ℕ → ℕ
diagonal_of mode m j =
    let p = plan_of (floats mode) m.n m.kinds in
    let row = p.lead + actives_of m.kinds j in
    row * p.side + row

-- where joint j is one of the model's active joints, its rotor is the same
abbrev pub RotorAt : Model → List Float → ℕ → Type 0
RotorAt m rotors j = j < m.n → (kind_of m.kinds j ≡ 2 → ⊥) → rotor_of m.rotors j ≡ rotor_of rotors j
