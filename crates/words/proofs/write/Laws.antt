-- One turn of the loop that writes a list, over any kind of item. Assumes nothing.
use mathlib.Core.Path.{◌≡◌, refl, ◌∙◌}
use mathlib.Core.List.{List, [], ◌∷◌, ◌++◌, append_assoc, append-nil}
use Prim.Native.Nat.{ℕ, zero-le, ◌+◌, ◌*◌, ◌≤◌, ◌<◌}
use native.Mathlib.Numerals.{add-one}
use native.Mathlib.Omega.{arith}
use lib.ListN.{length, get_or, take, drop, drop_of_length-le}
use lib.Seq.{drop-cons}
use Rattle.words.specs.Write.{items_text, list_text, hex_text}

-- WHAT A LOOP KEEPS that writes the items of l from a₀ on: i are written, and with the text of those left what stands there is the whole text
pub record Putting {A : Type 0} (f : A → List ℕ) (l : List A) (a₀ : ℕ) (out₀ out : List ℕ) (a i : ℕ) : Type 0 where
  pub few : i ≤ length l
  pub kept : length out ≡ length out₀
  pub low : a₀ ≤ a
  pub high : a ≤ a₀ + 17 * i
  pub left : take a out ++ items_text f (drop i l) ≡ take a₀ out₀ ++ items_text f l

pub items_start : {A : Type 0} (f : A → List ℕ) (l : List A) (a : ℕ) (out : List ℕ) → Putting f l a out out a 0
items_start f l a out = record { few = zero-le; kept = refl; low = omega arith; high = omega arith; left = refl }

module _ {A : Type 0} {f : A → List ℕ} {l : List A} {a₀ : ℕ} {out₀ out : List ℕ} {a i : ℕ} (h : Putting f l a₀ out₀ out a i) where
  -- a space up to b, and the next item v up to c
  pub items_more : {v : A} {b c : ℕ} (x y : List ℕ) → v ≡ get_or l i v → i < length l → length y ≡ length out₀
      → (b ≡ a + 1) × (take b x ≡ take a out ++ (32 ∷ []))
      → (b ≤ c) × (c ≤ b + 16) × (take c y ≡ take b x ++ f v)
      → Putting f l a₀ out₀ y c (i + 1)
  unfolding items_text
  items_more {v = v} x y is n e p q =
      record {
        few = omega arith;
        kept = e;
        low = omega arith;
        high = omega arith;
        left = rw (q.2, p.1, add-one i) (simp append_assoc (rw (drop-cons l i v n, ← is) at h.left));
      }

  -- behind the length, which is written from at on
  pub list_put : (at : ℕ) (o : List ℕ) → length l ≤ i → (at ≤ a₀) × (a₀ ≤ at + 16) × (take a₀ out₀ ≡ o ++ hex_text (length l))
      → (at ≤ a) × (a ≤ at + 17 * length l + 16) × (take a out ≡ o ++ list_text f l)
  unfolding items_text list_text
  list_put at o n p =
      (omega arith, omega arith, rw (drop_of_length-le l n, append-nil) at h.left ∙ rw p.2 (append_assoc o (hex_text (length l)) (items_text f l)))
