-- THE PROGRAM, turn by turn: what has been read, and what has been put out for it. Assumes nothing.
use Rattle.std.specs.Prelude.{ℕ, ◌≤◌, ◌<◌, false, cond, ◌≡◌, List, [], ◌++◌, ltb, length, take, drop}
use Rattle.arm.specs.Model.{empty_model}
use Rattle.desk.specs.declared.Kept.{Kept}
use Rattle.desk.specs.Block.{State, new_line, answers_of, left_of}

-- the current model, and the line so far
abbrev pub state_of : Kept → List ℕ → State
state_of k line = (k.model, (take k.len line, k.over))

-- the bytes of the block that have not been looked at yet
abbrev pub unread : Kept → List ℕ → List ℕ
unread k block = drop k.next (take k.end block)

-- in the block and in the line's room
abbrev pub Within : Kept → Type 0
Within k = (k.next ≤ k.end) × (k.end ≤ 65536) × (k.len < 65536)

-- before the first turn
pub record Begun (k : Kept) : Type 0 where
  pub within : Within k
  pub bytes : (block : List ℕ) → unread k block ≡ []
  pub state : (line : List ℕ) → state_of k line ≡ new_line empty_model

-- what a turn from k to r reads: a new block, but nothing where some of the last one is unread
abbrev pub read_by : Kept → Kept → List ℕ → List ℕ
read_by k r block' = cond (ltb k.next k.end) [] (take r.end block')

-- so it has these bytes ahead of it
abbrev pub ahead : Kept → List ℕ → Kept → List ℕ → List ℕ
ahead k block r block' = unread k block ++ read_by k r block'

-- after the read, if there is one: those bytes are unread, and the state is as it was
pub record Filled (k : Kept) (block : List ℕ) (r : Kept) (block' : List ℕ) : Type 0 where
  pub within : Within r
  pub bytes : unread r block' ≡ ahead k block r block'
  pub state : (line : List ℕ) → state_of r line ≡ state_of k line

-- A turn with these bytes ahead of it: what it puts out, with the answers to what it leaves unread behind, is the answers to them, and what will be left is the
-- same. Where there are any it takes at least one, and where there are none the run ends.
pub record Turned (k : Kept) (line bytes : List ℕ) (r : Kept) (block' line' out' : List ℕ) : Type 0 where
  pub within : Within r
  pub answers : take r.put out' ++ answers_of (state_of r line') (unread r block') ≡ answers_of (state_of k line) bytes
  pub left : left_of (state_of r line') (unread r block') ≡ left_of (state_of k line) bytes
  pub takes : 0 < length bytes → length (unread r block') < length bytes
  pub ends : bytes ≡ [] → (unread r block' ≡ []) × (r.live ≡ false)

-- ---- turns in a row: all that was read, all that was put out, what is kept, the block and the line
pub data Run : List ℕ → List ℕ → Kept → List ℕ → List ℕ → Type 0 where
  begun : {k : Kept} {block line : List ℕ} → Begun k → Run [] [] k block line
  turned : {input output : List ℕ} {k r : Kept} {block line block' line' out' : List ℕ} → Run input output k block line
      → Turned k line (ahead k block r block') r block' line' out'
      → Run (input ++ read_by k r block') (output ++ take r.put out') r block' line'
