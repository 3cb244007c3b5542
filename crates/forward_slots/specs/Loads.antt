-- Loads: link numbers, and six wrench numbers for each (document 01, "Model"; document 02, item 3). Definitions only.
use Rattle.std.specs.Prelude.{Bool, cond, List, [], ◌∷◌, ◌++◌, ℕ, zero, suc, ◌*◌, eqb, length, get_or, Float}
use Rattle.spatial.specs.Wrench.{zeros_of, plus_of}
use Rattle.spatial.specs.declared.wrench.Wrench.{Wrench}
use Rattle.slots.specs.Slots.{wrench_at, put_wrench}
use Rattle.forward_slots.specs.Layout.{load_place}

-- of the first k loads, those on a link, in list order
unfoldable pub listed_to : List ℕ → List Float → ℕ → ℕ → List Wrench
listed_to loaded loads link zero = []
listed_to loaded loads link (suc k) = cond (eqb (get_or loaded k 0) link) (listed_to loaded loads link k ++ wrench_at loads (k * 6) ∷ []) (listed_to loaded loads link k)

-- the loads on a link, in list order
abbrev pub listed_of : List ℕ → List Float → ℕ → List Wrench
listed_of loaded loads link = listed_to loaded loads link (length loaded)

-- further loads added to a sum, one after the other, each component by itself
unfoldable pub added_to : Wrench → List Wrench → Wrench
added_to sum [] = sum
added_to sum (w ∷ further) = added_to (plus_of sum w) further

-- the first load as it stands, and the further ones added to it; of none, zero
unfoldable pub sum_of : List Wrench → Wrench
sum_of [] = zeros_of
sum_of (first ∷ further) = added_to first further

-- THE LOAD RULE: a link's loads are added in list order, and without one it has zero (laws: proofs/loads/Rule.antt)
abbrev pub load_of : List ℕ → List Float → ℕ → Wrench
load_of loaded loads link = sum_of (listed_of loaded loads link)

-- the link loads of the first n joints
unfoldable pub loads_to : List ℕ → List Float → ℕ → List Float → List Float
loads_to loaded loads zero ws = ws
loads_to loaded loads (suc j) ws = put_wrench (loads_to loaded loads j ws) (load_place j) (load_of loaded loads (suc j))

-- ---- what the steps of the code promise each other

-- a sum and one load more; without any before it, that load as it stands
abbrev pub more_of : Bool → Wrench → Wrench → Wrench
more_of any sum w = cond any (plus_of sum w) w

-- one load more on joint j's link
unfoldable pub add_on : Bool → Wrench → List Float → ℕ → List Float
add_on any w ws j = put_wrench ws (load_place j) (more_of any (wrench_at ws (load_place j)) w)

-- one load more on a link: the root's sum, and the workspace with the others
unfoldable pub add_load : Bool → Wrench → Wrench → List Float → ℕ → Wrench × List Float
add_load any w root ws zero = (more_of any root w, ws)
add_load any w root ws (suc j) = (root, add_on any w ws j)
