-- What forward dynamics is given beside a model and a root. Definitions only.
use Rattle.std.specs.Prelude.{List, ℕ, Float}
use Rattle.forward_visits.specs.declared.task.Inputs.{Inputs as Lent}

-- positions, speeds, forces; the links with a load, and six numbers for each load
pub record Inputs : Type 0 where
  pub q : List Float
  pub qd : List Float
  pub forces : List Float
  pub loaded : List ℕ
  pub loads : List Float

abbrev pub inputs_by : List Float → List Float → List Float → List ℕ → List Float → Inputs
inputs_by q qd forces loaded loads = record { q = q; qd = qd; forces = forces; loaded = loaded; loads = loads }

-- what is lent
abbrev pub inputs_of : Lent → Inputs
inputs_of i = inputs_by i.q.now i.qd.now i.forces.now i.loaded.now i.loads.now
