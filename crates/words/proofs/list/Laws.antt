-- Items read one after another, over any kind of item. Assumes nothing.
use mathlib.Core.Path.{◌≡◌, refl, ◌∙◌}
use mathlib.Core.List.{List, [], ◌∷◌, ◌++◌, append_assoc, append-nil}
use Prim.Native.Nat.{ℕ, suc, ◌+◌, ◌-◌, ◌≤◌, ◌<◌}
use native.Mathlib.Numerals.{add-one}
use native.Mathlib.Omega.{arith}
use lib.ListN.{length, take, set, length-set}
use lib.Seq.{take_all, take-suc-set}
use Rattle.std.proofs.Common.{Option, Some, None}
use Rattle.words.specs.Read.{give, go_on, number}
use Rattle.words.specs.List.{items}

-- items that were read behind others
abbrev behind : {A : Type 0} → List A → Option (List A × List (List ℕ)) → Option (List A × List (List ℕ))
behind l r = go_on r (λ m. give (l ++ m))

behind-none : {A : Type 0} (r : Option (List A × List (List ℕ))) → behind [] r ≡ r
behind-none None = refl
behind-none (Some p) = refl

behind-one : {A : Type 0} (l : List A) (x : A) (r : Option (List A × List (List ℕ))) → behind (l ++ (x ∷ [])) r ≡ behind l (go_on r (λ m. give (x ∷ m)))
behind-one l x None = refl
behind-one l x (Some p) = rw append_assoc

-- WHAT A LOOP KEEPS that reads n items: k are read, and those left, behind them, make the list that all n make
pub record Filling {A : Type 0} (f : ℕ → A) (n : ℕ) (before : List (List ℕ)) (into : List A) (ws : List (List ℕ)) (k : ℕ) : Type 0 where
  pub kept : length into ≡ n
  pub left : behind (take k into) (items f (n - k) ws) ≡ items f n before

pub fill_start : {A : Type 0} (f : ℕ → A) (ws : List (List ℕ)) (into : List A) → Filling f (length into) ws into ws 0
fill_start f ws into =
    let e : length into - 0 ≡ length into = omega arith in
    record { kept = refl; left = rw e (behind-none (items f (length into) ws)) }

module _ {A : Type 0} {f : ℕ → A} {n : ℕ} {before : List (List ℕ)} {into : List A} {ws : List (List ℕ)} {k : ℕ} (h : Filling f n before into ws k) where
  -- the next word is v, and the item x that it makes is stored
  pub fill_more : {v : ℕ} {rest : List (List ℕ)} {x : A} → k < n → Some (v, rest) ≡ number ws → x ≡ f v → Filling f n before (set into k x) rest (k + 1)
  unfolding items
  fill_more {v = v} {rest = rest} {x = x} l g e =
      let d : n - k ≡ suc (n - (k + 1)) = omega arith in
      let b : k < length into = omega (arith, h.kept) in
      record {
        kept = simp length-set h.kept;
        left =
            rw (add-one k, take-suc-set into k x b, e) (behind-one (take k into) (f v) (items f (n - suc k) rest))
            ∙ rw (d, ← g, add-one k) at h.left;
      }

  pub fill_none : k < n → None ≡ number ws → None ≡ items f n before
  unfolding items
  fill_none l e = let d : n - k ≡ suc (n - (k + 1)) = omega arith in rw (d, ← e) at h.left

  pub fill_end : n ≤ k → Some (into, ws) ≡ items f n before
  unfolding items
  fill_end l =
      let d : n - k ≡ 0 = omega arith in
      let e : take k into ≡ into = take_all k into (omega (arith, h.kept)) in
      rw (d, append-nil, e) at h.left
