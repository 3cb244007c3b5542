-- Flags made of others, and the flag that some number below n has a property. Assumes nothing.
use mathlib.Core.Bool.{Bool, true, false, cond, ◌&&◌, ◌||◌, and-true, and-false, or-true, or-false, true≢false}
use mathlib.Core.List.{List}
use mathlib.Core.Path.{◌≡◌, refl, sym, ◌∙◌}
use Prim.Native.Nat.{ℕ, zero, suc, ◌+◌, ◌<◌}
use native.Mathlib.Omega.{arith}
use lib.ListN.{length}
use lib.Seq.{ext_get_or}
use Rattle.numbers.specs.Table.{tab}
use Rattle.numbers.proofs.Tables.{length-tab, get_or-tab}
use Rattle.refusals.specs.Refusals.{scan, lowest, found}
use Rattle.std.specs.Prelude.{Option, Some, None}
use Rattle.refusals.proofs.Searches.{lowest-none, lowest-some}
use Rattle.standing.specs.Standing.{another, some}

-- ---- flags

pub same_flag : (a b : Bool) → (a ≡ true → b ≡ true) → (b ≡ true → a ≡ true) → a ≡ b
same_flag true b f g = sym (f refl)
same_flag false true f g = g refl
same_flag false false f g = refl

pub all_three : (a b c : Bool) → a ≡ true → b ≡ true → c ≡ true → ((a && b) && c) ≡ true
all_three a b c e f g = rw (e, f, g)

pub both-are : (a b : Bool) → (a && b) ≡ true → (a ≡ true) × (b ≡ true)
both-are true b e = (refl, e)
both-are false b e = absurd (true≢false (sym e))

pub three-are : (a b c : Bool) → ((a && b) && c) ≡ true → (a ≡ true) × (b ≡ true) × (c ≡ true)
three-are true true c e = (refl, refl, e)
three-are true false c e = absurd (true≢false (sym e))
three-are false b c e = absurd (true≢false (sym e))

pub first : {a : Bool} (b : Bool) → a ≡ true → (a || b) ≡ true
first b e = rw e

pub second : (a : Bool) {b : Bool} → b ≡ true → (a || b) ≡ true
second a e = rw e (or-true a)

pub one-is : (a b : Bool) {A : Type 0} → (a || b) ≡ true → (a ≡ true → A) → (b ≡ true → A) → A
one-is true b e f g = f refl
one-is false b e f g = g e

pub or-not : (a : Bool) {b : Bool} → b ≡ false → (a || b) ≡ a
or-not a e = rw e (or-false a)

pub and_is : (a : Bool) {b : Bool} → b ≡ true → (a && b) ≡ a
and_is a e = rw e (and-true a)

pub and-not : (a : Bool) {b : Bool} → b ≡ false → (a && b) ≡ false
and-not a e = rw e (and-false a)

-- ---- some number below n

module _ (has : ℕ → Bool) where
  scan-more : (k i : ℕ) → found (scan has (suc k) i) ≡ (found (scan has k i) || has (i + k))
  unfolding scan found
  scan-more zero i = let e : i + 0 ≡ i = omega arith in rw e (go (has i))
    where
      go : (b : Bool) → found (cond b (Some i) None) ≡ b
      go true = refl
      go false = refl
  scan-more (suc k) i = let e : i + suc k ≡ suc i + k = omega arith in rw e (go (has i) (scan has (suc k) (suc i)) (scan has k (suc i)) (has (suc i + k)) (scan-more k (suc i)))
    where
      go : (b : Bool) (x y : Option ℕ) (c : Bool) → found x ≡ (found y || c) → found (cond b (Some i) x) ≡ (found (cond b (Some i) y) || c)
      go true x y c e = refl
      go false x y c e = e

  pub some_more : (k : ℕ) → some has (suc k) ≡ (some has k || has k)
  unfolding lowest
  some_more k = let e : 0 + k ≡ k = omega arith in rw e at (scan-more k 0)

  pub some-where : (n : ℕ) → some has n ≡ true → (x : ℕ) × (x < n) × (has x ≡ true)
  unfolding found
  some-where n e = go (lowest has n) refl e
    where
      go : (p : Option ℕ) → lowest has n ≡ p → found p ≡ true → (x : ℕ) × (x < n) × (has x ≡ true)
      go (Some x) f g = let s = lowest-some has n x f in (x, s.1, s.0)
      go None f g = absurd (true≢false (sym g))

  pub some-none : (n : ℕ) → some has n ≡ false → (x : ℕ) → x < n → has x ≡ false
  unfolding found
  some-none n e x h = go (lowest has n) refl e
    where
      go : (p : Option ℕ) → lowest has n ≡ p → found p ≡ false → has x ≡ false
      go (Some y) f g = absurd (true≢false g)
      go None f g = lowest-none has n f x h

  pub none_has : (n : ℕ) → ((x : ℕ) → x < n → has x ≡ false) → some has n ≡ false
  none_has n f = go (some has n) refl
    where
      go : (b : Bool) → some has n ≡ b → b ≡ false
      go true e = let (x, h, g) = some-where n e in absurd (true≢false (sym g ∙ f x h))
      go false e = refl

  pub some-has : (n x : ℕ) → x < n → has x ≡ true → some has n ≡ true
  some-has n x h e = go (some has n) refl
    where
      go : (b : Bool) → some has n ≡ b → b ≡ true
      go true f = refl
      go false f = absurd (true≢false (sym e ∙ some-none n f x h))

-- ---- lists of flags

pub as-table : (f : ℕ → Bool) (n : ℕ) (flags : List Bool) → length flags ≡ n → ((i : ℕ) → i < n → another flags i ≡ f i) → flags ≡ tab f n
as-table f n flags e h = ext_get_or false flags (tab f n) (e ∙ sym (length-tab f n)) (λ i g. let l = rw e at g in h i l ∙ sym (get_or-tab f false n i l))
