-- What `model` and `lend` hand in, of the words behind the first: N PARENTS KINDS ORIGINS AXES LINKS ROTORS. Assumes nothing.
use Rattle.std.specs.Prelude.{ℕ, ◌≤◌, List, [], length, take, Float, Option, Some, None}
use Rattle.words.specs.Read.{Reader, give, ◌>>=◌, ◌>>◌, number, end}
use Rattle.words.specs.List.{numbers, doubles}
use Rattle.model_lists.specs.declared.read.Sizes.{Sizes}

pub record Numbers : Type 0 where
  pub n : ℕ
  pub parents : List ℕ
  pub kinds : List ℕ
  pub origins : List Float
  pub axes : List Float
  pub links : List Float
  pub rotors : List Float

unfoldable pub handed : Reader Numbers
handed = do
  n ← number
  parents ← numbers
  kinds ← numbers
  origins ← doubles
  axes ← doubles
  links ← doubles
  rotors ← doubles
  end
  give (record { n = n; parents = parents; kinds = kinds; origins = origins; axes = axes; links = links; rotors = rotors })

-- ---- what the steps of the code promise each other

-- the first items of the lent lists
abbrev pub numbers_by : Sizes → List ℕ → List ℕ → List Float → List Float → List Float → List Float → Numbers
numbers_by k parents kinds origins axes links rotors =
    record {
      n = k.n;
      parents = take k.parents parents;
      kinds = take k.kinds kinds;
      origins = take k.origins origins;
      axes = take k.axes axes;
      links = take k.links links;
      rotors = take k.rotors rotors;
    }

-- what `read_numbers` has read into the lent lists
abbrev pub handed_read : Option Sizes → List ℕ → List ℕ → List Float → List Float → List Float → List Float → Option Numbers
handed_read (Some k) parents kinds origins axes links rotors = Some (numbers_by k parents kinds origins axes links rotors)
handed_read None parents kinds origins axes links rotors = None

-- the lent lists have so many
pub record SizesIn (k : Sizes) (p q : List ℕ) (o a l t : List Float) : Type 0 where
  pub parents : k.parents ≤ length p
  pub kinds : k.kinds ≤ length q
  pub origins : k.origins ≤ length o
  pub axes : k.axes ≤ length a
  pub links : k.links ≤ length l
  pub rotors : k.rotors ≤ length t

abbrev pub HandedIn : Option Sizes → List ℕ → List ℕ → List Float → List Float → List Float → List Float → Type 0
HandedIn (Some k) parents kinds origins axes links rotors = SizesIn k parents kinds origins axes links rotors
HandedIn None parents kinds origins axes links rotors = Unit
