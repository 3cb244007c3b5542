-- Lists of bytes, fronts of lists, and whether they make a model. Assumes nothing.
use mathlib.Core.Path.{◌≡◌, refl, sym, ap, ◌∙◌, subst}
use mathlib.Core.Bool.{Bool, true, false, ◌&&◌}
use mathlib.Core.List.{List, [], ◌∷◌, ◌++◌}
use Prim.Native.Nat.{ℕ, zero, suc, ◌+◌, ◌≤◌, ◌<◌}
use native.Mathlib.Numerals.{add-one}
use native.Mathlib.Omega.{arith}
use borrow.Author.Tests.{lt-ltb, le-ltb}
use lib.Dec.{T, eqb, eqb→eq}
use lib.ListN.{length, get_or, take, drop, set, drop_of_length-le}
use lib.Seq.{drop-cons, take-suc, take-suc-set, length-take-le, get_or-take}
use lib.Ieee.{Float, nan}
use lib.Ieee.Bits.{is_true}
use lib.Ieee.Fits.{and_l, and_r}
use Rattle.numbers.specs.Table.{tab}
use Rattle.model_lists.specs.Lent.{all_bytes, full_by, bytes_by, lendable, lent_model, lent_by}
use Rattle.model_lists.specs.declared.read.Sizes.{Sizes}
use Rattle.model_lists.specs.Read.{numbers_by, SizesIn}
use Rattle.std.proofs.Common.{Some, None, cond}

-- ---- of the first n numbers, those from k on
module _ (l : List ℕ) (n k : ℕ) (w : n ≤ length l) where
  pub bytes_on : k < n → get_or l k 0 < 256 → all_bytes (drop (k + 1) (take n l)) ≡ all_bytes (drop k (take n l))
  unfolding all_bytes
  bytes_on h b = rw (add-one k, drop-cons (take n l) k 0 (omega (arith, length-take-le n l w)), get_or-take n l k 0 h, lt-ltb _ _ b)

  pub bytes-off : k < n → 256 ≤ get_or l k 0 → false ≡ all_bytes (drop k (take n l))
  unfolding all_bytes
  bytes-off h b = rw (drop-cons (take n l) k 0 (omega (arith, length-take-le n l w)), get_or-take n l k 0 h, le-ltb _ _ b)

  pub bytes-end : n ≤ k → true ≡ all_bytes (drop k (take n l))
  unfolding all_bytes
  bytes-end h = let e : length (take n l) ≤ k = omega (arith, length-take-le n l w) in rw (drop_of_length-le (take n l) e)

pub copied : (d s : List ℕ) (k : ℕ) → k < length d → k < length s → take k d ≡ take k s → take (k + 1) (set d k (get_or s k 0)) ≡ take (k + 1) s
copied d s k h b e = rw (add-one k, take-suc-set d k (get_or s k 0) h, take-suc s k 0 b, e)

-- the front of a list by the index
pub front : (s : List Float) (n : ℕ) → n ≤ length s → tab (λ k. get_or s k nan) n ≡ take n s
unfolding tab
front s zero h = refl
front s (suc n) h = rw (take-suc s n nan h) (ap (λ (l : List Float). l ++ (get_or s n nan ∷ [])) (front s n (omega arith)))

-- ---- a model
full-sizes : (p k o a l r : ℕ) → T (full_by p k o a l r) → (p ≡ 32) × (k ≡ 32) × (o ≡ 224) × (a ≡ 96) × (l ≡ 330) × (r ≡ 32)
unfolding full_by
full-sizes p k o a l r t =
    let joints = eqb p 32 && eqb k 32 in
    let numbers = eqb o 224 && eqb a 96 in
    let bodies = eqb l 330 && eqb r 32 in
    let f = and_l (joints && numbers) bodies t in
    let m = and_r (joints && numbers) bodies t in
    let j = and_l joints numbers f in
    let n = and_r joints numbers f in (
      eqb→eq p 32 (and_l (eqb p 32) (eqb k 32) j),
      eqb→eq k 32 (and_r (eqb p 32) (eqb k 32) j),
      eqb→eq o 224 (and_l (eqb o 224) (eqb a 96) n),
      eqb→eq a 96 (and_r (eqb o 224) (eqb a 96) n),
      eqb→eq l 330 (and_l (eqb l 330) (eqb r 32) m),
      eqb→eq r 32 (and_r (eqb l 330) (eqb r 32) m),
    )

holds : {b : Bool} → b ≡ true → T b
holds e = subst T (sym e) tt

pub none-by : (l : List ℕ) → false ≡ all_bytes l → None ≡ bytes_by l
unfolding bytes_by
none-by l e = rw (← e)

pub some-by : (l b : List ℕ) → true ≡ all_bytes l → b ≡ l → Some b ≡ bytes_by l
unfolding bytes_by
some-by l b e f = rw (← e, f)

-- what bytes that were made or not made tell
none-told : (l : List ℕ) → bytes_by l ≡ None → all_bytes l ≡ false
unfolding bytes_by
none-told l e = go (all_bytes l) e
  where
    go : (t : Bool) → cond t (Some l) None ≡ None → t ≡ false
    go true f = let z : ◌≡◌ {A = ℕ} 0 1 = cc in absurd (omega arith)
    go false f = refl

some-told : (l b : List ℕ) → bytes_by l ≡ Some b → (all_bytes l ≡ true) × (b ≡ l)
unfolding bytes_by
some-told l b e = go (all_bytes l) e
  where
    go : (t : Bool) → cond t (Some l) None ≡ Some b → (t ≡ true) × (b ≡ l)
    go true f = (refl, cc)
    go false f = let z : ◌≡◌ {A = ℕ} 0 1 = cc in absurd (omega arith)

module _ (k : Sizes) (p q : List ℕ) (o a l r : List Float) (w : SizesIn k p q o a l r) where
  -- whether the lists are as long as a model's own
  abbrev whole : Bool
  whole = full_by k.parents k.kinds k.origins k.axes k.links k.rotors

  lendable-is : lendable (numbers_by k p q o a l r) ≡ (whole && (all_bytes (take k.parents p) && all_bytes (take k.kinds q)))
  unfolding lendable
  lendable-is = rw (length-take-le _ _ w.parents, length-take-le _ _ w.kinds, length-take-le _ _ w.origins, length-take-le _ _ w.axes, length-take-le _ _ w.links, length-take-le _ _ w.rotors)

  sizes : whole ≡ true → (k.parents ≡ 32) × (k.kinds ≡ 32) × (k.origins ≡ 224) × (k.axes ≡ 96) × (k.links ≡ 330) × (k.rotors ≡ 32)
  sizes e = full-sizes _ _ _ _ _ _ (holds e)

  pub not-full : whole ≡ false → None ≡ lent_by (numbers_by k p q o a l r)
  unfolding lent_by
  not-full e = rw (lendable-is, e)

  pub no-parents : whole ≡ true → bytes_by (take 32 p) ≡ None → None ≡ lent_by (numbers_by k p q o a l r)
  unfolding lent_by
  no-parents e f = rw (lendable-is, e, (sizes e).0, none-told _ f)

  pub no-kinds : {b : List ℕ} → whole ≡ true → bytes_by (take 32 p) ≡ Some b → bytes_by (take 32 q) ≡ None → None ≡ lent_by (numbers_by k p q o a l r)
  unfolding lent_by
  no-kinds {b} e f g = rw (lendable-is, e, (sizes e).0, (sizes e).1, (some-told _ b f).0, none-told _ g)

  pub lent : {b c : List ℕ} {ds es ls rs : List Float} → whole ≡ true → bytes_by (take 32 p) ≡ Some b → bytes_by (take 32 q) ≡ Some c
      → ds ≡ take 224 o → es ≡ take 96 a → ls ≡ take 330 l → rs ≡ take 32 r
      → Some (record { n = k.n; parents = b; kinds = c; origins = ds; axes = es; links = ls; rotors = rs }) ≡ lent_by (numbers_by k p q o a l r)
  unfolding lent_by
  lent {b} {c} e f g d h m n =
      let s = sizes e in
      let x = some-told _ b f in
      let y = some-told _ c g in
      rw (lendable-is, e, s.0, s.1, s.2, s.3, s.4, s.5, x.0, y.0, x.1, y.1, d, h, m, n)
