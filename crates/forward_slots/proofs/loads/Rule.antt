-- The load rule, for readers: none, one, and lists that agree on a link. Assumes nothing.
use mathlib.Core.List.{List, [], ◌∷◌, ◌++◌}
use mathlib.Core.Logic.{⊎_elim}
use mathlib.Core.Path.{◌≡◌, refl, ap, ◌∙◌}
use Prim.Native.Nat.{ℕ, zero, suc, ◌*◌, ◌<◌}
use native.Mathlib.Nat.{eq-or-lt_of_le}
use native.Mathlib.Omega.{arith}
use borrow.Author.Tests.{eq-eqb, ne_eqb}
use lib.ListN.{length, get_or}
use lib.Ieee.{Float}
use Rattle.spatial.specs.Wrench.{zeros_of}
use Rattle.slots.specs.Slots.{wrench_at}
use Rattle.forward_slots.specs.Loads.{listed_to, listed_of, added_to, sum_of, load_of}

module _ (loaded : List ℕ) (loads : List Float) (link : ℕ) where
  -- a load on the link is the last so far, and another changes nothing
  pub hit : (k : ℕ) → get_or loaded k 0 ≡ link → listed_to loaded loads link (suc k) ≡ listed_to loaded loads link k ++ wrench_at loads (k * 6) ∷ []
  unfolding listed_to
  hit k e = simp (eq-eqb (get_or loaded k 0) link e)

  pub miss : (k : ℕ) → (get_or loaded k 0 ≡ link → ⊥) → listed_to loaded loads link (suc k) ≡ listed_to loaded loads link k
  unfolding listed_to
  miss k e = simp (ne_eqb (get_or loaded k 0) link e)

  none-listed : (k : ℕ) → ((i : ℕ) → i < k → get_or loaded i 0 ≡ link → ⊥) → listed_to loaded loads link k ≡ []
  unfolding listed_to
  none-listed zero f = refl
  none-listed (suc k) f = miss k (f k (omega arith)) ∙ none-listed k (λ i h. f i (omega arith))

  one-listed : (k at : ℕ) → at < k → get_or loaded at 0 ≡ link → ((i : ℕ) → i < k → (i ≡ at → ⊥) → get_or loaded i 0 ≡ link → ⊥) → listed_to loaded loads link k ≡ wrench_at loads (at * 6) ∷ []
  one-listed zero at h e f = absurd (omega arith)
  one-listed (suc k) at h e f =
      ⊎_elim
      (λ (q : at ≡ k). hit k (rw q at e) ∙ rw (none-listed k (λ i g. f i (omega arith) (λ s. omega arith)), q))
      (λ (q : at < k). miss k (f k (omega arith) (λ s. omega arith)) ∙ one-listed k at q e (λ i g. f i (omega arith)))
      (eq-or-lt_of_le (omega arith))

  -- a link that is not listed has zero
  pub no-load : ((i : ℕ) → i < length loaded → get_or loaded i 0 ≡ link → ⊥) → load_of loaded loads link ≡ zeros_of
  unfolding sum_of
  no-load f = rw (none-listed (length loaded) f)

  -- one that is listed once has that load, to the bit
  pub one-load : (at : ℕ) → at < length loaded → get_or loaded at 0 ≡ link → ((i : ℕ) → i < length loaded → (i ≡ at → ⊥) → get_or loaded i 0 ≡ link → ⊥) → load_of loaded loads link ≡ wrench_at loads (at * 6)
  unfolding sum_of added_to
  one-load at h e f = rw (one-listed (length loaded) at h e f)

-- two lists that have the same loads on a link, in the same order, give it the same sum
pub same-loads : (loaded loaded' : List ℕ) (loads loads' : List Float) (link : ℕ) → listed_of loaded loads link ≡ listed_of loaded' loads' link → load_of loaded loads link ≡ load_of loaded' loads' link
same-loads loaded loaded' loads loads' link e = ap sum_of e
