-- What the entry between two joints rests on (document 02, item 7; its rotor, item 11). Definitions only.
-- Joint j stands on link `parent j` and carries link j + 1; link 0 is the root. Past n a model's lists hold anything, so only joints below n count.
use Rattle.std.specs.Prelude.{◌≡◌, ℕ, suc, ◌<◌}
use Rattle.plain_entries.specs.Arm.{Arm}

-- link l CARRIES link x: itself, and every link whose joint stands on a link that it carries
pub data Carries (n : ℕ) (parent : ℕ → ℕ) (l : ℕ) : ℕ → Type 0 where
  itself : Carries n parent l l
  further : (j : ℕ) → j < n → Carries n parent l (parent j) → Carries n parent l (suc j)

-- joint x is strictly BELOW joint J: it stands on a link that J carries
abbrev pub Below : ℕ → (ℕ → ℕ) → ℕ → ℕ → Type 0
Below n parent J x = Carries n parent (suc J) (parent x)

-- joint x is BETWEEN, from J up to the joint just under I: it carries J, and is strictly below I
abbrev pub Between : ℕ → (ℕ → ℕ) → ℕ → ℕ → ℕ → Type 0
Between n parent I J x = Carries n parent (suc x) (suc J) × Below n parent I x

-- two arms over one tree AGREE in all that the entry between J and I rests on, where I is J or carries it. Between J and itself there is none,
-- since a parent link comes before its joint
pub record Agree (a b : Arm) (J I : ℕ) : Type 0 where
  pub joints : a.n ≡ b.n
  pub tree : (j : ℕ) → j < a.n → a.parent j ≡ b.parent j
  -- all links that J carries
  pub links : (l : ℕ) → Carries a.n a.parent (suc J) l → a.link l ≡ b.link l
  -- the frames of joints strictly below J
  pub below : (j : ℕ) → j < a.n → Below a.n a.parent J j → a.frame j ≡ b.frame j
  -- both axes, each with its joint's kind
  pub high : a.motion J ≡ b.motion J
  pub low : a.motion I ≡ b.motion I
  -- the frames from J up to the joint just under I
  pub path : (j : ℕ) → j < a.n → Between a.n a.parent I J j → a.frame j ≡ b.frame j
  -- for I equal to J its rotor
  pub own : J ≡ I → a.rotor J ≡ b.rotor J
