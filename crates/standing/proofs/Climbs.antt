-- What the loops that flag links keep: going up from one link, and over all links or joints. Assumes nothing.
use mathlib.Core.Bool.{Bool, true, false, or_assoc, ◌||◌}
use mathlib.Core.List.{List}
use mathlib.Core.Path.{◌≡◌, refl, sym, ap, ap₂, ◌∙◌}
use Prim.Native.Nat.{ℕ, suc, ◌+◌, ◌-◌, ◌≤◌, ◌<◌}
use native.Mathlib.Numerals.{add-one}
use native.Mathlib.Omega.{arith}
use borrow.Author.Tests.{eqb-true, eqb-false}
use lib.Dec.{eqb}
use lib.ListN.{length, set, replicate, length-set, get_or-replicate}
use lib.Seq.{get_or-set_same, get_or-set_other}
use Rattle.numbers.specs.Table.{tab}
use Rattle.numbers.proofs.Tables.{length-tab, get_or-tab}
use Rattle.refusals.specs.Refusals.{scan, lowest, found}
use Rattle.standing.specs.Tree.{carries_in, carries}
use Rattle.standing.specs.Standing.{another, some}
use Rattle.standing.proofs.Flags.{second, or-not, some_more, as-table}
use Rattle.standing.proofs.Trees.{carries-step}

-- one flag set
pub flag-set : (flags : List Bool) (l i : ℕ) → l < length flags → another (set flags l true) i ≡ (another flags i || eqb l i)
flag-set flags l i h = go (eqb l i) (eqb-true l i) (eqb-false l i)
  where
    go : (b : Bool) → (b ≡ true → l ≡ i) → (b ≡ false → l ≡ i → ⊥) → another (set flags l true) i ≡ (another flags i || b)
    go true e f = let s : l ≡ i = e refl in ap (λ (j : ℕ). another (set flags l true) j) (sym s) ∙ get_or-set_same flags l true false h ∙ sym (second (another flags i) refl)
    go false e f = get_or-set_other flags l i true false (λ s. f refl (sym s)) ∙ sym (or-not (another flags i) refl)

-- ---- going up from link x: l is the link that is come to

module _ (n : ℕ) (parent : ℕ → ℕ) (begun : List Bool) (x : ℕ) where
  pub record Climbs (flags : List Bool) (l : ℕ) : Type 0 where
    pub size : length flags ≡ length begun
    pub within : l ≤ n
    pub rest : (i : ℕ) → (another flags i || carries parent i l) ≡ (another begun i || carries parent i x)

  pub climbs-begin : x ≤ n → Climbs begun x
  climbs-begin h = record { size = refl; within = h; rest = λ i. refl }

  module _ (flags : List Bool) (l : ℕ) (room : l < length flags) (c : Climbs flags l) where
    pub climbs-on : ((j : ℕ) → j < n → parent j ≤ j) → (l ≡ 0 → ⊥) → Climbs (set flags l true) (parent (l - 1))
    climbs-on low z =
        let e : suc (l - 1) ≡ l = omega arith in
        let lower = low (l - 1) (omega (arith, c.within)) in
        record {
          size = length-set flags l true ∙ c.size;
          within = omega (arith, c.within, lower);
          rest = λ i.
              ap (λ (b : Bool). b || carries parent i (parent (l - 1))) (flag-set flags l i room)
              ∙ or_assoc (another flags i) (eqb l i) (carries parent i (parent (l - 1)))
              ∙ ap (λ (b : Bool). another flags i || b) (rw e at (sym (carries-step n parent low i (l - 1) (omega (arith, c.within)))))
              ∙ c.rest i;
        }

    pub climbs-end : (k : ℕ) → length begun ≡ k → l ≡ 0 → set flags 0 true ≡ tab (λ i. another begun i || carries parent i x) k
    unfolding carries_in
    climbs-end k e z =
        as-table _ k (set flags 0 true) (length-set flags 0 true ∙ c.size ∙ e)
        (λ i h. flag-set flags 0 i (omega arith) ∙ (rw z at (c.rest i)))

-- ---- over all numbers below n: link l is flagged where some number below k gives it

module _ (gives : ℕ → ℕ → Bool) (begun : List Bool) where
  pub record Gathers (flags : List Bool) (k : ℕ) : Type 0 where
    pub size : length flags ≡ length begun
    pub front : (l : ℕ) → l < length begun → another flags l ≡ (another begun l || some (gives l) k)

  module _ (flags : List Bool) (k : ℕ) (g : Gathers flags k) where
    -- by this number those that `by` says
    pub gathers-on : (by : ℕ → Bool) (size : ℕ) (next : List Bool) → length begun ≡ size → next ≡ tab (λ l. another flags l || by l) size → ((l : ℕ) → gives l k ≡ by l) → Gathers next (k + 1)
    gathers-on by size next d e f =
        record {
          size = ap length e ∙ length-tab _ size ∙ sym d;
          front = λ l h.
              ap (λ (s : List Bool). another s l) e ∙ get_or-tab _ false size l (omega (arith, d))
              ∙ ap₂ ◌||◌ (g.front l h) (sym (f l))
              ∙ or_assoc (another begun l) (some (gives l) k) (gives l k)
              ∙ ap (λ (b : Bool). another begun l || b) (sym (some_more (gives l) k))
              ∙ ap (λ (j : ℕ). another begun l || some (gives l) j) (sym (add-one k));
        }

    -- or none
    pub gathers-over : ((l : ℕ) → gives l k ≡ false) → Gathers flags (k + 1)
    gathers-over f =
        record {
          size = g.size;
          front = λ l h.
              g.front l h
              ∙ ap (λ (b : Bool). another begun l || b) (sym (or-not (some (gives l) k) (f l)) ∙ sym (some_more (gives l) k))
              ∙ ap (λ (j : ℕ). another begun l || some (gives l) j) (sym (add-one k));
        }

    pub gathers-end : (size n : ℕ) → length begun ≡ size → k ≡ n → flags ≡ tab (λ l. another begun l || some (gives l) n) size
    gathers-end size n d e = as-table _ size flags (g.size ∙ d) (λ l h. g.front l (omega (arith, d)) ∙ ap (λ (j : ℕ). another begun l || some (gives l) j) e)

  pub gathers-begin : Gathers begun 0
  unfolding found lowest scan
  gathers-begin = record { size = refl; front = λ l h. sym (or-not (another begun l) refl) }

-- ---- two such after each other, on flags that are all false

pub both-gathered : (f g : ℕ → Bool) (size : ℕ) (one two : List Bool) → one ≡ tab (λ l. another (replicate size false) l || f l) size → two ≡ tab (λ l. another one l || g l) size
    → two ≡ tab (λ l. f l || g l) size
both-gathered f g size one two d e =
    as-table _ size two (ap length e ∙ length-tab _ size)
    (λ l h. ap (λ (s : List Bool). another s l) e ∙ get_or-tab _ false size l h
    ∙ ap (λ (b : Bool). b || g l) (ap (λ (s : List Bool). another s l) d ∙ get_or-tab _ false size l h ∙ ap (λ (b : Bool). b || f l) (get_or-replicate size l false false h)))
