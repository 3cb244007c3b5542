-- Lists of names and of flags, over plain lists: one turn of each loop, and flags that are all false. Assumes nothing.
use mathlib.Core.Path.{◌≡◌, refl, sym, ◌∙◌}
use mathlib.Core.Bool.{Bool, true, false, ◌||◌, or-false, or_assoc}
use mathlib.Core.List.{List, ◌++◌}
use Prim.Native.Nat.{ℕ, zero-le, ◌+◌, ◌≤◌, ◌<◌}
use native.Mathlib.Numerals.{add-one}
use native.Mathlib.Omega.{arith}
use borrow.Author.Tests.{ne_eqb}
use lib.Dec.{eqb}
use lib.ListN.{length, get_or, take, drop, set, replicate, length-set, length-replicate, get_or-replicate, drop_of_length-le}
use lib.Seq.{drop-cons, get_or-take, length-take-le, length_front, take_at}
use Rattle.numbers.specs.Table.{tab}
use Rattle.numbers.proofs.Tables.{length-tab, get_or-tab}
use Rattle.standing.proofs.Climbs.{flag-set}
use Rattle.standing.proofs.Flags.{as-table}
use Rattle.standing_requests.specs.Request.{listed}

-- ---- flags by their index
false-at : {flags : List Bool} {n : ℕ} → flags ≡ tab (λ t. false) n → (i : ℕ) → i < n → get_or flags i false ≡ false
false-at {n = n} e i h = rw e (get_or-tab (λ t. false) false n i h)

-- ---- flags

-- WHAT A LOOP KEEPS that flags what l lists: the flags, with what is listed from k on, say what all of l says
pub record Flagged (l : List ℕ) (size : ℕ) (flags : List Bool) (k : ℕ) : Type 0 where
  pub few : k ≤ length l
  pub kept : length flags ≡ size
  pub left : (i : ℕ) → i < size → (get_or flags i false || listed (drop k l) i) ≡ listed l i

pub flag-start : (l : List ℕ) (flags : List Bool) → flags ≡ tab (λ t. false) (length flags) → Flagged l (length flags) flags 0
flag-start l flags e =
    record {
      few = zero-le;
      kept = refl;
      left = λ i h. rw (false-at e i h);
    }

listed_more : (l : List ℕ) (k i : ℕ) → k < length l → listed (drop k l) i ≡ (eqb (get_or l k 0) i || listed (drop (k + 1) l) i)
unfolding listed
listed_more l k i h = rw (add-one k, drop-cons l k 0 h)

module _ {l : List ℕ} {size : ℕ} {flags : List Bool} {k : ℕ} (f : Flagged l size flags k) where
  flag-more : (next : List Bool) → k < length l → length next ≡ size → ((i : ℕ) → i < size → get_or next i false ≡ (get_or flags i false || eqb (get_or l k 0) i))
      → Flagged l size next (k + 1)
  flag-more next h e p =
      record {
        few = omega arith;
        kept = e;
        left = λ i a. rw (p i a) (or_assoc (get_or flags i false) _ _ ∙ rw (listed_more l k i h) at (f.left i a));
      }

  pub flag-on : k < length l → get_or l k 0 < size → Flagged l size (set flags (get_or l k 0) true) (k + 1)
  flag-on h b = flag-more (set flags (get_or l k 0) true) h (simp length-set f.kept) (λ i a. flag-set flags (get_or l k 0) i (omega (arith, f.kept)))

  pub flag_off : k < length l → size ≤ get_or l k 0 → Flagged l size flags (k + 1)
  flag_off h b = flag-more flags h f.kept (λ i a. rw (ne_eqb (get_or l k 0) i (λ q. omega arith)) (sym (or-false _)))

  pub flag-end : length l ≤ k → flags ≡ tab (listed l) size
  unfolding listed
  flag-end h = as-table (listed l) size flags f.kept (λ i a. rw (drop_of_length-le l h, or-false) at (f.left i a))

-- ---- all false

pub all-false : (n : ℕ) → replicate n false ≡ tab (λ t. false) n
all-false n = as-table (λ t. false) n (replicate n false) (length-replicate n false) (λ i h. get_or-replicate n i false false h)

-- the first k, lent, and given back as x
module _ {b : List Bool} {n k : ℕ} (e : b ≡ tab (λ t. false) n) (h : k ≤ n) where
  pub fits : k ≤ length b
  fits = rw e (rw (length-tab (λ t. false) n) h)

  pub first-false : take k b ≡ tab (λ t. false) k
  first-false = as-table (λ t. false) k (take k b) (length-take-le k b fits) (λ i a. get_or-take k b i false a ∙ false-at e i (omega arith))

  module _ (x : List Bool) (l : length x ≡ length (take k b)) where
    pub back_fits : k ≤ length (x ++ drop k b)
    back_fits = rw (length_front b x k l) fits

    pub given_back : take k (x ++ drop k b) ≡ x
    given_back = take_at x (drop k b) k (l ∙ length-take-le k b fits)
