-- What is read of a line: its words, and readers of words. Assumes nothing.
use Rattle.std.specs.Prelude.{ℕ, ◌+◌, ◌-◌, ◌*◌, ◌≡◌, Bool, true, false, cond, ◌&&◌, ◌||◌, List, [], ◌∷◌, length, ltb, leb, eqb, Option, Some, None, option_and_then, IfNone}

-- ---- words: runs of bytes that are no space
abbrev pub is_space : ℕ → Bool
is_space b = eqb b 32

-- a word ahead of others, unless it has no byte
abbrev pub ahead : List ℕ → List (List ℕ) → List (List ℕ)
ahead [] ws = ws
ahead (b ∷ w) ws = (b ∷ w) ∷ ws

-- the bytes before the first space, and the words behind it
unfoldable pub cut_of : List ℕ → List ℕ × List (List ℕ)
cut_of [] = ([], [])
cut_of (b ∷ l) = cond (is_space b) ([], ahead (cut_of l).0 (cut_of l).1) (b ∷ (cut_of l).0, (cut_of l).1)

-- THE WORDS of a line
unfoldable pub words_of : List ℕ → List (List ℕ)
words_of l = ahead (cut_of l).0 (cut_of l).1

abbrev pub no_word : List (List ℕ) → Bool
no_word [] = true
no_word (w ∷ ws) = false

-- ---- numbers

-- the value of a digit, `0` to `9` and `a` to `f`
unfoldable pub digit_of : ℕ → Option ℕ
digit_of b = cond (leb 48 b && leb b 57) (Some (b - 48)) (cond (leb 97 b && leb b 102) (Some (b - 87)) None)

-- v, then the digits of the word behind it
unfoldable pub read_from : ℕ → List ℕ → Option ℕ
read_from v [] = Some v
read_from v (b ∷ l) = option_and_then (λ d. read_from (v * 16 + d) l) (digit_of b)

-- A NUMBER: 1 to 16 digits
unfoldable pub number_of : List ℕ → Option ℕ
number_of w = cond (eqb (length w) 0 || ltb 16 (length w)) None (read_from 0 w)

-- ---- A READER takes words off the front: what it makes of them, and the words behind; nothing where they are not as asked
abbrev pub Reader : Type 0 → Type 0
Reader A = List (List ℕ) → Option (A × List (List ℕ))

abbrev pub give : {A : Type 0} → A → Reader A
give a ws = Some (a, ws)

abbrev pub fail : {A : Type 0} → Reader A
fail ws = None

-- what is there
abbrev pub given : {A : Type 0} → Option A → Reader A
given None = fail
given (Some a) = give a

-- and another goes on with the words behind
abbrev pub go_on : {A B : Type 0} → Option (A × List (List ℕ)) → (A → Reader B) → Option (B × List (List ℕ))
go_on None f = None
go_on (Some p) f = f p.0 p.1

-- readers in a row, as `do` has them
abbrev pub ◌>>=◌ : {A B : Type 0} → Reader A → (A → Reader B) → Reader B
◌>>=◌ r f ws = go_on (r ws) f

abbrev pub ◌>>◌ : {B : Type 0} → Reader (Unit {0}) → Reader B → Reader B
◌>>◌ r f ws = go_on (r ws) (λ u. f)

unfoldable pub word : Reader (List ℕ)
word [] = None
word (w ∷ ws) = Some (w, ws)

unfoldable pub number : Reader ℕ
number = do
  w ← word
  given (number_of w)

-- no word is left
unfoldable pub end : Reader (Unit {0})
end ws = cond (no_word ws) (Some (tt, [])) None

-- what a function answers, with the words that it leaves
abbrev pub leaving : {A : Type 0} → Option A → List (List ℕ) → Option (A × List (List ℕ))
leaving None ws = None
leaving (Some a) ws = Some (a, ws)

-- WHAT A FUNCTION READS is what a reader takes off the words before it; a refusal leaves the words as they were
abbrev pub ReadBy : {A : Type 0} → Reader A → List (List ℕ) → Option A → List (List ℕ) → Type 0
ReadBy reader before r behind = (leaving r behind ≡ reader before) × IfNone r (behind ≡ before)

-- what a function makes of all the words of a line
abbrev pub AllReadBy : {A : Type 0} → Reader A → List (List ℕ) → Option A → Type 0
AllReadBy reader before r = leaving r [] ≡ reader before
