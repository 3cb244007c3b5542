-- Numbers, doubles and lists as the text of an answer. Assumes nothing.
use Rattle.std.specs.Prelude.{ℕ, zero, suc, Bool, ◌-◌, ◌^◌, cond, List, [], ◌∷◌, ◌++◌, length, ltb, codes, Float}
use Rattle.std.specs.Float.{binary64}
use Rattle.std.specs.Float.Ieee.{to_bits, is_nan}
use Rattle.io.specs.Digits.{last_digits}

-- the fewest digits in base b, at least k, that hold n; at most k + f are tried
unfoldable pub fewest_from : ℕ → ℕ → ℕ → ℕ → ℕ
fewest_from b zero k n = k
fewest_from b (suc f) k n = cond (ltb n (b ^ k)) k (fewest_from b f (suc k) n)

-- a number below 2^64 in as few digits as hold it, and no fewer than w, of 1 to 16
unfoldable pub width_text : ℕ → ℕ → List ℕ
width_text w n = last_digits 16 (fewest_from 16 (16 - w) w n) n

-- A NUMBER has no leading zeros
abbrev pub hex_text : ℕ → List ℕ
hex_text n = width_text 1 n

-- A MARK is 1 or 0
abbrev pub mark_text : Bool → List ℕ
mark_text b = hex_text (cond b 1 0)

-- and so in decimal
unfoldable pub decimal_text : ℕ → List ℕ
decimal_text n = last_digits 10 (fewest_from 10 19 1 n) n

-- A DOUBLE is `nan`, or the 16 digits of its pattern
unfoldable pub double_text : Float → List ℕ
double_text x = cond (is_nan x) (codes "nan") (width_text 16 (to_bits binary64 x))

-- each item behind a space
unfoldable pub items_text : {A : Type 0} → (A → List ℕ) → List A → List ℕ
items_text f [] = []
items_text f (x ∷ l) = 32 ∷ (f x ++ items_text f l)

-- A LIST is its length, then its items
unfoldable pub list_text : {A : Type 0} → (A → List ℕ) → List A → List ℕ
list_text f l = hex_text (length l) ++ items_text f l
