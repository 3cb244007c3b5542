-- What a model's lists say of its joints and links (document 01, "Model"; document 02, item 11). Each definition takes the lists that it needs, lent or a model's own. Definitions only.
use Rattle.std.specs.Prelude.{Bool, ◌||◌, List, ℕ, ◌+◌, ◌*◌, ◌≤◌, ◌<◌, ltb, get_or, Float}
use Rattle.std.specs.Float.{nan}
use Rattle.numbers.specs.Double.{0·0}
use Rattle.numbers.specs.Table.{tab}
use Rattle.refusals.specs.Refusals.{lowest, found}
use Rattle.slots.specs.Slots.{vec3_at, frame_at}
use Rattle.arm.specs.Joint.{motion_by}
use Rattle.arm.specs.declared.joint.Joint.{Joint}
use Rattle.arm.specs.declared.joint.Motion.{Motion}
use Rattle.arm.specs.declared.model.Link.{Link}
use Rattle.arm.specs.declared.model.Model.{Model}

-- the model of these lists
abbrev pub bundle : ℕ → List ℕ → List ℕ → List Float → List Float → List Float → List Float → Model
bundle n parents kinds origins axes links rotors =
    record { n = n; parents = parents; kinds = kinds; origins = origins; axes = axes; links = links; rotors = rotors }

unfoldable pub empty_model : Model
unfolding tab
empty_model =
    record {
      n = 0;
      parents = tab (λ j. 0) 32;
      kinds = tab (λ j. 0) 32;
      origins = tab (λ t. 0·0) 224;
      axes = tab (λ t. 0·0) 96;
      links = tab (λ t. 0·0) 330;
      rotors = tab (λ t. 0·0) 32;
    }

-- ---- joints and links

-- joint j's parent link and kind
abbrev pub parent_of : List ℕ → ℕ → ℕ
parent_of parents j = get_or parents j 0

abbrev pub kind_of : List ℕ → ℕ → ℕ
kind_of kinds j = get_or kinds j 0

unfoldable pub motion_of : List ℕ → List Float → ℕ → Motion
motion_of kinds axes j = motion_by (kind_of kinds j) (vec3_at axes (j * 3))

unfoldable pub joint_of : List ℕ → List ℕ → List Float → List Float → ℕ → Joint
joint_of parents kinds origins axes j = record { parent = parent_of parents j; motion = motion_of kinds axes j; origin = frame_at origins (j * 7) }

-- joint j's rotor
abbrev pub rotor_of : List Float → ℕ → Float
rotor_of rotors j = get_or rotors j nan

-- mass, first moment, and the symmetric matrix of xx, xy, xz, yy, yz, zz
unfoldable pub link_of : List Float → ℕ → Link
link_of links l =
    let at = l * 10 in
    let a = vec3_at links (at + 4) in
    let b = vec3_at links (at + 7) in
    record {
      mass = get_or links at nan;
      moment = vec3_at links (at + 1);
      inertia = record { r0 = a; r1 = record { x = a.y; y = b.x; z = b.y }; r2 = record { x = a.z; y = b.y; z = b.z } };
    }

-- ---- what a lent model is asked for (refusal 9)

-- refusal 3: joint j's parent link above j
abbrev pub bad_parent : List ℕ → ℕ → Bool
bad_parent parents j = ltb j (parent_of parents j)

-- refusal 4: kind above 2
abbrev pub bad_kind : List ℕ → ℕ → Bool
bad_kind kinds j = ltb 2 (kind_of kinds j)

unfoldable pub wild_joint : List ℕ → List ℕ → ℕ → Bool
wild_joint parents kinds j = bad_parent parents j || bad_kind kinds j

-- cause 1, 3 or 4
unfoldable pub wild_of : ℕ → List ℕ → List ℕ → Bool
wild_of n parents kinds = ltb 32 n || found (lowest (wild_joint parents kinds) n)

-- the n joints make a tree: a parent link comes before its joint
pub record Tree (n : ℕ) (parents : List ℕ) : Type 0 where
  pub few : n ≤ 32
  pub below : (j : ℕ) → j < n → parent_of parents j ≤ j

-- none of the causes 1, 3 and 4
pub record Good (n : ℕ) (parents kinds : List ℕ) : Type 0 where
  pub tree : Tree n parents
  pub known : (j : ℕ) → j < n → kind_of kinds j ≤ 2
