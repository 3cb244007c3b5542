-- A run puts out what the bytes that it has read are answered, however they were cut into blocks: `whole`. Assumes nothing.
use mathlib.Core.Bool.{cond}
use mathlib.Core.Path.{◌≡◌, refl, sym, ◌∙◌}
use mathlib.Core.List.{List, [], ◌++◌, append_assoc, append-nil}
use Prim.Native.Nat.{ℕ, ◌≤◌, ◌<◌}
use native.Mathlib.Omega.{arith}
use borrow.Author.Tests.{lt-ltb, le-ltb}
use lib.Dec.{ltb}
use lib.ListN.{take, length-take, drop_of_length-le}
use Rattle.arm.specs.Model.{empty_model}
use Rattle.desk.specs.declared.Kept.{Kept}
use Rattle.desk.specs.Block.{State, new_line, end_of, answers_of, left_of, output_of}
use Rattle.desk.specs.Turns.{state_of, unread, read_by, ahead, Filled, Turned, Run, begun, turned}
use Rattle.desk.proofs.block.Cut.{cuts}

-- ---- before a read: some of the block is left, or none

pub left_over : (k : Kept) (block : List ℕ) → k.next < k.end → unread k block ≡ ahead k block k block
left_over k block h = rw (lt-ltb k.next k.end h) (sym (append-nil _))

pub none_left : (k : Kept) (block : List ℕ) → k.end ≤ k.next → unread k block ≡ []
none_left k block h = drop_of_length-le (take k.end block) {i = k.next} (omega (arith, length-take k.end block))

pub read-new : (k : Kept) (block : List ℕ) {new : List ℕ} → k.end ≤ k.next → new ≡ unread k block ++ cond (ltb k.next k.end) [] new
read-new k block h = rw (le-ltb k.next k.end h, none_left k block h)

-- ---- behind a read

pub read_first : {k f r : Kept} (block : List ℕ) {line block' line' out' : List ℕ} → Filled k block f block' → r.end ≡ f.end
    → Turned f line (unread f block') r block' line' out' → Turned k line (ahead k block r block') r block' line' out'
read_first {k} {f} {r} block {line} {block'} fill e t =
    let b : unread f block' ≡ ahead k block r block' = fill.bytes ∙ rw e in
    record {
      within = t.within;
      answers = t.answers ∙ (λ i. answers_of (fill.state line i) (b i));
      left = t.left ∙ (λ i. left_of (fill.state line i) (b i));
      takes = rw b at t.takes;
      ends = rw b at t.ends;
    }

-- ---- a run

-- what is put out, with the answers to the rest behind, is the answers to the input so far
Stands : List ℕ → List ℕ → State → List ℕ → Type 0
Stands input output s rest = (output ++ answers_of s rest ≡ answers_of (new_line empty_model) input) × (left_of s rest ≡ left_of (new_line empty_model) input)

stands_on : (input output : List ℕ) (s : State) (rest read put : List ℕ) (s' : State) (rest' : List ℕ) → Stands input output s rest
    → put ++ answers_of s' rest' ≡ answers_of s (rest ++ read) → left_of s' rest' ≡ left_of s (rest ++ read)
    → Stands (input ++ read) (output ++ put) s' rest'
unfolding Stands
stands_on input output s rest read put s' rest' h a l =
    let v = cuts s rest read in
    let w = cuts (new_line empty_model) input read in
    (rw (append_assoc output put _, a, v.0, ← append_assoc output _ _, h.0, h.1, w.0), rw (l, v.1, h.1, w.1))

stands : {input output : List ℕ} {k : Kept} {block line : List ℕ} → Run input output k block line → Stands input output (state_of k line) (unread k block)
unfolding Stands answers_of left_of
stands {block = block} {line = line} (begun b) = rw (b.bytes block, b.state line) (refl, refl)
stands (turned {input} {output} {k} {r} {block} {line} {block'} {line'} {out'} run t) =
    stands_on input output (state_of k line) (unread k block) (read_by k r block') (take r.put out') (state_of r line') (unread r block') (stands run) t.answers t.left

-- all that a run has put out, with what `last` puts out behind, is the output to all that it has read, once nothing of that is unread
pub whole : {input output : List ℕ} {k : Kept} {block line : List ℕ} → Run input output k block line → unread k block ≡ []
    → (put : List ℕ) → put ≡ (end_of (state_of k line)).0 → output ++ put ≡ output_of input
unfolding Stands answers_of left_of output_of
whole {output = output} run e put p = let s = rw e at (stands run) in rw (p, ← s.0, ← s.1, append-nil)
