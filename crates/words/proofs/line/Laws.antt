-- What goes to a line of the bytes up to a newline. Assumes nothing.
use mathlib.Core.Path.{◌≡◌, refl, sym, ap, ◌∙◌}
use mathlib.Core.Logic.{⊎_elim}
use mathlib.Core.Bool.{Bool, true, false, ◌||◌}
use mathlib.Core.List.{List, [], ◌∷◌, ◌++◌, append_assoc, append-nil}
use Prim.Native.Nat.{ℕ, zero, suc, ◌+◌, ◌-◌, ◌≤◌, ◌<◌, min}
use native.Mathlib.Numerals.{one-add}
use native.Mathlib.Omega.{arith}
use lib.Dec.{ltb}
use lib.ListN.{length, take, drop, length-append, length-drop}
use lib.Seq.{length-take-le, take_all, take_at}
use borrow.Author.Tests.{lt-ltb, le-ltb}
use Rattle.std.proofs.lemmas.Bool.{cases_lt}
use Rattle.words.specs.Line.{in_line, line_of, before_of}

longer : (t : List ℕ) (b : ℕ) → length (t ++ b ∷ []) ≡ length t + 1
longer t b = length-append t (b ∷ [])

-- they all have room,
room : (l t : List ℕ) (o : Bool) → length t + before_of l ≤ 65535 → line_of (t, o) l ≡ (t ++ take (before_of l) l, o)
unfolding line_of
room [] t o h = rw append-nil
room (b ∷ l) t o h = go (in_line b) refl (room l (t ++ b ∷ []) o)
  where
    go : (q : Bool) → in_line b ≡ q → (length (t ++ b ∷ []) + before_of l ≤ 65535 → line_of (t ++ b ∷ [], o) l ≡ ((t ++ b ∷ []) ++ take (before_of l) l, o))
        → line_of (t, o) (b ∷ l) ≡ (t ++ take (before_of (b ∷ l)) (b ∷ l), o)
    go true e r =
        let n : length t + (1 + before_of l) ≤ 65535 = rw e at h in
        rw (e, one-add, lt-ltb (length t) 65535 (omega arith)) (r (omega (arith, longer t b)) ∙ rw append_assoc)
    go false e r = rw (e, append-nil)

-- or no byte has,
none : (l t : List ℕ) → length t ≡ 65535 → line_of (t, true) l ≡ (t, true)
unfolding line_of
none [] t h = refl
none (b ∷ l) t h = go (in_line b) refl (none l t h)
  where
    go : (q : Bool) → in_line b ≡ q → line_of (t, true) l ≡ (t, true) → line_of (t, true) (b ∷ l) ≡ (t, true)
    go true e r = rw (e, le-ltb (length t) 65535 (omega arith)) r
    go false e r = rw e

-- or some have
some : (l t : List ℕ) (o : Bool) (k : ℕ) → length t + k ≡ 65535 → k < before_of l → line_of (t, o) l ≡ (t ++ take k l, true)
unfolding line_of
some [] t o k e h = absurd (omega arith)
some (b ∷ l) t o zero e h = go (in_line b) refl
  where
    go : (q : Bool) → in_line b ≡ q → line_of (t, o) (b ∷ l) ≡ (t ++ [], true)
    go true g = rw (g, le-ltb (length t) 65535 (omega arith), append-nil) (none l t (omega arith))
    go false g = absurd (omega (arith, rw g at h))
some (b ∷ l) t o (suc k) e h = go (in_line b) refl (some l (t ++ b ∷ []) o k)
  where
    go : (q : Bool) → in_line b ≡ q → (length (t ++ b ∷ []) + k ≡ 65535 → k < before_of l → line_of (t ++ b ∷ [], o) l ≡ ((t ++ b ∷ []) ++ take k l, true))
        → line_of (t, o) (b ∷ l) ≡ (t ++ (b ∷ take k l), true)
    go true g r =
        let n : suc k < 1 + before_of l = rw g at h in
        rw (g, lt-ltb (length t) 65535 (omega arith)) (r (omega (arith, longer t b)) (omega arith) ∙ rw append_assoc)
    go false g r = absurd (omega (arith, rw g at h))

or-true : (o : Bool) → (o || true) ≡ true
or-true true = refl
or-true false = refl

or-false : (o : Bool) → (o || false) ≡ o
or-false true = refl
or-false false = refl

-- what `gather` answers, of the bytes that are left of the block
module _ (block line part post : List ℕ) (o : Bool) (i len kept count : ℕ) where
  abbrev left : List ℕ
  left = take (length block - i) (drop i block)

  pub gathered : i ≤ length block → len < 65536 → 65536 ≤ length line → (count ≤ length left) × (count ≡ before_of left) → kept ≡ min count (65535 - len) → part ≡ take kept left
      → (i ≤ i + count) × (i + count ≤ length block) × (len + kept < 65536) × (i + count ≡ i + before_of (drop i block))
      × ((take (len + kept) (take len line ++ (part ++ post)), o || ltb kept count) ≡ line_of (take len line, o) (drop i block))
  gathered h a b c d e =
      let s = drop i block in
      let z : left ≡ s = take_all (length block - i) s (omega (arith, length-drop i block)) in
      let n : count ≡ before_of s = c.1 ∙ ap before_of z in
      let l : length s + i ≡ length block = omega (arith, length-drop i block) in
      let m : count ≤ length s = omega (arith, c.0, ap length z) in
      let t : length (take len line) ≡ len = length-take-le len line (omega arith) in
      let p : length part ≡ kept = ap length e ∙ length-take-le kept left (omega arith) in
      let q : take (len + kept) (take len line ++ (part ++ post)) ≡ take len line ++ part =
      ap (take (len + kept)) (sym (append_assoc (take len line) part post)) ∙ take_at (take len line ++ part) post (len + kept) (omega (arith, length-append (take len line) part)) in (
        omega arith,
        omega arith,
        omega arith,
        ap (λ k. i + k) n,
        ⊎_elim
            (λ (m : kept < count). rw (q, e, z, lt-ltb kept count m, or-true o) (sym (some s (take len line) o kept (omega arith) (omega arith))))
            (λ (m : count ≤ kept).
            let k : kept ≡ before_of s = omega arith in
            rw (q, e, z, le-ltb kept count m, or-false o, k) (sym (room s (take len line) o (omega arith))))
            (cases_lt kept count),
      )
