-- Fills, copies and parts of a slice, in the words of the definitions. Assumes nothing.
use Rattle.std.proofs.Common.{◌≡◌, ℕ, zero, suc, ◌+◌, ◌-◌, ◌≤◌, List, [], ◌∷◌, ◌++◌, length, take, drop, refl, sym, ap, ◌∙◌, arith, add-one, length-drop, get_or-drop}
use Rattle.std.proofs.Math.ListN.{replicate}
use Rattle.std.proofs.lemmas.List.{replicate_more, take_more, length-replicate}
use Rattle.std.proofs.lemmas.List.Edits.{paste_none, paste_more, fill_from_more}
use Rattle.std.proofs.lemmas.Slice.{put_mid-paste}
use borrow.Rule.Slice.PartMut.{put_mid}
use lib.Ieee.{Float, nan}
use lib.Seq.{paste}
use Rattle.numbers.specs.Double.{0·0}
use Rattle.numbers.specs.Table.{tab}
use Rattle.slots.specs.Slots.{put_to, zero_to, cleared, part_of}

replicate-tab : (n : ℕ) (x : Float) → replicate n x ≡ tab (λ i. x) n
unfolding tab
replicate-tab zero x = refl
replicate-tab (suc n) x = rw add-one at (sym (replicate_more n x)) ∙ ap (λ (r : List Float). r ++ x ∷ []) (replicate-tab n x)

pub cleared_is : (s : List Float) → replicate (length s) 0·0 ≡ cleared s
unfolding cleared
cleared_is s = replicate-tab (length s) 0·0

pub part_is : (s : List Float) (at n : ℕ) → at + n ≤ length s → take n (drop at s) ≡ part_of s at n
unfolding tab part_of
part_is s at zero h = refl
part_is s at (suc n) h =
    rw add-one at (take_more (drop at s) n nan (omega (arith, length-drop at s)))
    ∙ rw (part_is s at n (omega arith), get_or-drop at s n nan)

put-paste : (s : List Float) (at : ℕ) (m : List Float) (n : ℕ) → at + n ≤ length s → n ≤ length m → put_to s at m n ≡ paste s at m n
unfolding put_to
put-paste s at m zero h k = paste_none s at m
put-paste s at m (suc n) h k = rw (put-paste s at m n (omega arith) (omega arith), ← add-one n) (paste_more s at m n nan (omega arith) k)

zero-paste : (s : List Float) (at n : ℕ) → at + n ≤ length s → zero_to s at n ≡ paste s at (replicate n 0·0) n
unfolding zero_to
zero-paste s at zero h = paste_none s at []
zero-paste s at (suc n) h = rw (zero-paste s at n (omega arith)) (rw add-one at (fill_from_more s at n 0·0 (omega arith)))

-- a part of s, to which ys is copied, or a fill
pub put_is : (s : List Float) (at n : ℕ) (ys : List Float) → at + n ≤ length s → length ys ≡ n → put_mid at (at + n - at) s ys ≡ put_to s at ys n
put_is s at n ys h l = put_mid-paste at (at + n - at) s ys ys n refl (omega arith) (omega (arith, l)) ∙ sym (put-paste s at ys n h (omega (arith, l)))

pub zero_is : (s : List Float) (at n : ℕ) → at + n ≤ length s → put_mid at (at + n - at) s (replicate (at + n - at) 0·0) ≡ zero_to s at n
zero_is s at n h =
    let e : at + n - at ≡ n = omega arith in
    rw e (put_mid-paste at n s (replicate n 0·0) (replicate n 0·0) n refl refl (sym (length-replicate n 0·0)) ∙ sym (zero-paste s at n h))
