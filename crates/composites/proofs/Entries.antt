-- Places of a matrix's entries: different entries lie apart, and an entry is read back with its mirror. Assumes nothing.
use mathlib.Core.Bool.{Bool, true, false, not}
use mathlib.Core.List.{List}
use mathlib.Core.Logic.{⊎_elim}
use mathlib.Core.Path.{◌≡◌, refl, sym, ap, ◌∙◌}
use Prim.Native.Nat.{ℕ, ◌*◌, ◌≤◌, ◌<◌}
use native.Mathlib.Nat.{suc-mul, mul-le-mul_right, eq-or-lt_of_le}
use native.Mathlib.Omega.{arith}
use lib.ListN.{length, get_or, set, length-set}
use lib.Seq.{get_or-set_same}
use lib.Ieee.{Float, nan}
use Rattle.arm.specs.Joint.{with_rotor}
use Rattle.calls.specs.declared.plan.Plan.{Plan}
use Rattle.composites.specs.Plan.{matrix_place, place_of, room_of, put_pair, add_rotor}
use Rattle.composites.proofs.plan.Squares.{square}
use Rattle.slots.proofs.Blocks.{Outside, wider, both, split, set-outside}

module _ (p : Plan) (row column row' column' : ℕ) where
  place-below : row < p.side → column < column' → place_of p row column ≡ place_of p row' column' → ⊥
  place-below h c e = omega (arith, suc-mul column p.side, mul-le-mul_right p.side c)

-- one place is one entry
pub same_place : (p : Plan) (row column row' column' : ℕ) → row < p.side → row' < p.side → place_of p row column ≡ place_of p row' column' → (row ≡ row') × (column ≡ column')
same_place p row column row' column' h h' e =
    ⊎_elim
    (λ c. absurd (place-below p row column row' column' h c e))
    (λ c. ⊎_elim
    (λ (d : column' ≡ column). (omega (arith, ap (λ (x : ℕ). x * p.side) d), sym d))
    (λ d. absurd (place-below p row' column' row column h' d (sym e))) (eq-or-lt_of_le c))
    (split column column')

-- a place lies in the matrix
pub place-fits : (p : Plan) (row column : ℕ) → row < p.side → column < p.side → (matrix_place p.n ≤ place_of p row column) × (place_of p row column < room_of p)
place-fits p row column h g = (omega arith, omega (arith, square row column p.side h g))

module _ (p : Plan) (row column : ℕ) (v : Float) (ws : List Float) (h : row < p.side) (g : column < p.side) where
  -- an entry is what was put there, and so is its mirror
  pair-mirror : room_of p ≤ length ws → get_or (put_pair p row column v ws) (place_of p column row) nan ≡ v
  unfolding put_pair
  pair-mirror room = get_or-set_same (set ws (place_of p row column) v) (place_of p column row) v nan (omega (arith, length-set ws (place_of p row column) v, place-fits p column row g h))

  pair-here : room_of p ≤ length ws → get_or (put_pair p row column v ws) (place_of p row column) nan ≡ v
  unfolding put_pair
  pair-here room = ⊎_elim below (λ c. ⊎_elim same above (eq-or-lt_of_le c)) (split row column)
    where
      first : get_or (set ws (place_of p row column) v) (place_of p row column) nan ≡ v
      first = get_or-set_same ws (place_of p row column) v nan (omega (arith, place-fits p row column h g))

      apart : (row ≡ column → ⊥) → get_or (set (set ws (place_of p row column) v) (place_of p column row) v) (place_of p row column) nan ≡ v
      apart z =
          (set-outside (set ws (place_of p row column) v) (place_of p column row) v).kept (place_of p row column)
          (λ a b. z (same_place p row column column row h g (omega arith)).0) ∙ first

      below : row < column → get_or (set (set ws (place_of p row column) v) (place_of p column row) v) (place_of p row column) nan ≡ v
      below c = apart (λ e. omega arith)

      above : column < row → get_or (set (set ws (place_of p row column) v) (place_of p column row) v) (place_of p row column) nan ≡ v
      above c = apart (λ e. omega arith)

      same : column ≡ row → get_or (set (set ws (place_of p row column) v) (place_of p column row) v) (place_of p row column) nan ≡ v
      same e = rw e (get_or-set_same (set ws (place_of p row row) v) (place_of p row row) v nan (omega (arith, length-set ws (place_of p row row) v, place-fits p row row h h)))

  -- every other entry stays
  pair-other : (row' column' : ℕ) → row' < p.side → column' < p.side → (row' ≡ row → column' ≡ column → ⊥) → (row' ≡ column → column' ≡ row → ⊥)
      → get_or (put_pair p row column v ws) (place_of p row' column') nan ≡ get_or ws (place_of p row' column') nan
  unfolding put_pair
  pair-other row' column' h' g' f f' =
      (set-outside (set ws (place_of p row column) v) (place_of p column row) v).kept (place_of p row' column')
      (λ a b. let e = same_place p row' column' column row h' g (omega arith) in f' e.0 e.1)
      ∙ (set-outside ws (place_of p row column) v).kept (place_of p row' column')
      (λ a b. let e = same_place p row' column' row column h' h (omega arith) in f e.0 e.1)

  -- and what does not lie in the matrix
  pub pair-outside : Outside (matrix_place p.n) (p.side * p.side) ws (put_pair p row column v ws)
  unfolding put_pair
  pair-outside =
      both (wider (set-outside ws (place_of p row column) v) (omega arith) (omega (arith, place-fits p row column h g)))
      (wider (set-outside (set ws (place_of p row column) v) (place_of p column row) v) (omega arith) (omega (arith, place-fits p column row g h)))

-- ---- an entry, or its mirror

-- the place of a row and a column, or of the same two the other way round
abbrev pub facing : Plan → Bool → ℕ → ℕ → ℕ
facing p true row column = place_of p row column
facing p false row column = place_of p column row

pub facing-flips : (p : Plan) (b : Bool) (row column : ℕ) → facing p b row column ≡ facing p (not b) column row
facing-flips p true row column = refl
facing-flips p false row column = refl

pub facing-fits : (p : Plan) (b : Bool) (row column : ℕ) → row < p.side → column < p.side → (matrix_place p.n ≤ facing p b row column) × (facing p b row column < room_of p)
facing-fits p true row column h g = place-fits p row column h g
facing-fits p false row column h g = place-fits p column row g h

module _ (p : Plan) (row column : ℕ) (v : Float) (ws : List Float) (h : row < p.side) (g : column < p.side) where
  pub pair_put : room_of p ≤ length ws → (b : Bool) → get_or (put_pair p row column v ws) (facing p b row column) nan ≡ v
  pair_put room true = pair-here p row column v ws h g room
  pair_put room false = pair-mirror p row column v ws h g room

  pub pair-away : (row' column' : ℕ) → row' < p.side → column' < p.side → (row' ≡ row → column' ≡ column → ⊥) → (row' ≡ column → column' ≡ row → ⊥) → (b : Bool)
      → get_or (put_pair p row column v ws) (facing p b row' column') nan ≡ get_or ws (facing p b row' column') nan
  pair-away row' column' h' g' f f' true = pair-other p row column v ws h g row' column' h' g' f f'
  pair-away row' column' h' g' f f' false = pair-other p row column v ws h g column' row' g' h' (λ x y. f' y x) (λ x y. f y x)

-- ---- a rotor changes its own diagonal entry alone

module _ (p : Plan) (row : ℕ) (rotor : Float) (ws : List Float) (h : row < p.side) where
  pub rotor-put : room_of p ≤ length ws → (b : Bool) → get_or (add_rotor p row rotor ws) (facing p b row row) nan ≡ with_rotor rotor (get_or ws (facing p b row row) nan)
  unfolding add_rotor
  rotor-put room true = get_or-set_same ws (place_of p row row) _ nan (omega (arith, place-fits p row row h h))
  rotor-put room false = get_or-set_same ws (place_of p row row) _ nan (omega (arith, place-fits p row row h h))

  rotor-other : (row' column' : ℕ) → row' < p.side → (row' ≡ row → column' ≡ row → ⊥) → get_or (add_rotor p row rotor ws) (place_of p row' column') nan ≡ get_or ws (place_of p row' column') nan
  unfolding add_rotor
  rotor-other row' column' h' f =
      (set-outside ws (place_of p row row) _).kept (place_of p row' column') (λ a b. let e = same_place p row' column' row row h' h (omega arith) in f e.0 e.1)

  pub rotor-away : (row' column' : ℕ) → row' < p.side → column' < p.side → (row' ≡ row → column' ≡ row → ⊥) → (b : Bool)
      → get_or (add_rotor p row rotor ws) (facing p b row' column') nan ≡ get_or ws (facing p b row' column') nan
  rotor-away row' column' h' g' f true = rotor-other row' column' h' f
  rotor-away row' column' h' g' f false = rotor-other column' row' g' (λ x y. f y x)

  pub rotor-outside : Outside (matrix_place p.n) (p.side * p.side) ws (add_rotor p row rotor ws)
  unfolding add_rotor
  rotor-outside = wider (set-outside ws (place_of p row row) _) (omega arith) (omega (arith, place-fits p row row h h))

-- ---- the workspace's length stays

pub length-put_pair : (p : Plan) (row column : ℕ) (entry : Float) (ws : List Float) → length (put_pair p row column entry ws) ≡ length ws
unfolding put_pair
length-put_pair p row column entry ws = simp length-set

pub length-add_rotor : (p : Plan) (row : ℕ) (rotor : Float) (ws : List Float) → length (add_rotor p row rotor ws) ≡ length ws
unfolding add_rotor
length-add_rotor p row rotor ws = simp length-set
