-- The builder's model (document 01, "Model"; document 02, item 11). Definitions only.
use Rattle.std.specs.Prelude.{cond, Option, Some, None, Ok, Err, List, ◌≡◌, ℕ, ◌*◌, ◌/◌, ◌%◌, ltb, length, get_or, Float}
use Rattle.std.specs.Float.{nan}
use Rattle.numbers.specs.Double.{0·0}
use Rattle.numbers.specs.Table.{tab}
use Rattle.numbers.specs.Vec3.{comp, vec_by}
use Rattle.numbers.specs.declared.vec3.Vec3.{Vec3}
use Rattle.refusals.specs.Refusals.{Verdict}
use Rattle.arm.specs.Joint.{is_fixed}
use Rattle.arm.specs.Model.{kind_of, rotor_of, empty_model, Good}
use Rattle.builder.specs.Checks.{axis_of, verdict_of}
use Rattle.builder.specs.declared.build.Built.{Built}
use Rattle.arm.specs.declared.model.Model.{Model}

-- ---- slots: the first k as handed in, those past them as in the empty model

abbrev pub slot_by : {A : Type 0} → A → ℕ → (ℕ → A) → ℕ → A
slot_by empty k f t = cond (ltb t k) (f t) empty

-- parents and kinds: one a joint
unfoldable pub byte_slots : ℕ → List ℕ → List ℕ
unfolding tab
byte_slots n s = tab (slot_by 0 n (λ j. get_or s j 0)) 32

-- origins and links: the whole list
unfoldable pub double_slots : List Float → ℕ → List Float
unfolding tab
double_slots s size = tab (slot_by 0·0 (length s) (λ t. get_or s t nan)) size

-- axes: what the axis rule keeps; that it refuses none is checked before
abbrev pub axis_by : Option Vec3 → Vec3
axis_by (Some v) = v
axis_by None = vec_by (λ i. 0·0)

unfoldable pub axis_slot : ℕ → List ℕ → List Float → ℕ → Vec3
axis_slot n kinds axes j = slot_by (vec_by (λ i. 0·0)) n (λ i. axis_by (axis_of kinds axes i)) j

unfoldable pub axis_slots : ℕ → List ℕ → List Float → List Float
unfolding tab
axis_slots n kinds axes = tab (λ t. comp (axis_slot n kinds axes (t / 3)) (t % 3)) 96

-- rotors: a fixed joint's is never looked at and is kept as +0.0
unfoldable pub rotor_slot : List ℕ → List Float → ℕ → Float
rotor_slot kinds rotors j = cond (is_fixed (kind_of kinds j)) 0·0 (rotor_of rotors j)

unfoldable pub rotor_slots : ℕ → List ℕ → List Float → List Float
unfolding tab
rotor_slots n kinds rotors = tab (slot_by 0·0 n (rotor_slot kinds rotors)) 32

-- ---- the model

unfoldable pub model_of : ℕ → List ℕ → List ℕ → List Float → List Float → List Float → List Float → Model
model_of n parents kinds origins axes links rotors =
    record {
      n = n;
      parents = byte_slots n parents;
      kinds = byte_slots n kinds;
      origins = double_slots origins 224;
      axes = axis_slots n kinds axes;
      links = double_slots links 330;
      rotors = rotor_slots n kinds rotors;
    }

-- a refusal returns the empty model
abbrev pub model_by : Verdict → Model → Model
model_by (Ok u) m = m
model_by (Err r) m = empty_model

unfoldable pub built_of : ℕ → List ℕ → List ℕ → List Float → List Float → List Float → List Float → Built
built_of n parents kinds origins axes links rotors =
    let verdict = verdict_of n parents kinds origins axes links rotors in
    record { verdict = verdict; model = model_by verdict (model_of n parents kinds origins axes links rotors) }

-- ---- what the steps of the code promise each other

-- 1 to 4 have passed
pub record Listed (n : ℕ) (parents kinds : List ℕ) (axes rotors : ℕ) : Type 0 where
  pub good : Good n parents kinds
  pub one_parent : length parents ≡ n
  pub one-kind : length kinds ≡ n
  pub three : axes ≡ n * 3
  pub one-rotor : rotors ≡ n
