-- Blocks of a list of numbers: what is written at one place leaves every other, and a reader sees its own block alone. Assumes nothing.
use mathlib.Core.Bool.{Bool, true, false}
use mathlib.Core.List.{List, [], ◌∷◌, ◌++◌}
use mathlib.Core.Logic.{◌⊎◌, inl, inr}
use mathlib.Core.Path.{◌≡◌, refl, ◌∙◌}
use Prim.Native.Nat.{ℕ, zero, suc, ◌+◌, ◌≤◌, ◌<◌}
use native.Mathlib.Nat.{eq-or-lt_of_le}
use native.Mathlib.Omega.{arith}
use borrow.Author.Tests.{ltb-true, ltb-false}
use lib.Dec.{ltb}
use lib.ListN.{length, get_or, set}
use lib.Seq.{get_or-set_other}
use lib.Ieee.{Float, nan}
use Rattle.numbers.specs.Double.{0·0}
use Rattle.numbers.specs.Table.{tab}
use Rattle.numbers.proofs.Tables.{get_or-tab}
use Rattle.numbers.specs.declared.vec3.Vec3.{Vec3}
use Rattle.numbers.specs.declared.mat3.Mat3.{Mat3}
use Rattle.spatial.specs.declared.frame.Frame.{Frame}
use Rattle.spatial.specs.declared.twist.Twist.{Twist}
use Rattle.spatial.specs.declared.wrench.Wrench.{Wrench}
use Rattle.slots.specs.Slots.{vec3_at, put_vec3, mat3_at, put_mat3, put_to, twist_at, put_twist, wrench_at, put_wrench, frame_at, put_frame, zero_to, cleared, mat6_at, part_of}

-- ---- the two relations

-- t is s but for the l numbers from `at` on
pub record Outside (at l : ℕ) (s t : List Float) : Type 0 where
  pub kept : (i : ℕ) → (at ≤ i → i < at + l → ⊥) → get_or t i nan ≡ get_or s i nan

-- t and s have the same l numbers from `at` on
abbrev pub Same : ℕ → ℕ → List Float → List Float → Type 0
Same at l s t = (i : ℕ) → at ≤ i → i < at + l → get_or t i nan ≡ get_or s i nan

module _ {at l : ℕ} {s t : List Float} (f : Outside at l s t) where
  pub wider : {at' l' : ℕ} → at' ≤ at → at + l ≤ at' + l' → Outside at' l' s t
  wider h g = record { kept = λ i o. f.kept i (λ a b. o (omega arith) (omega arith)) }

  -- blocks apart
  pub before : (at' l' : ℕ) → at' + l' ≤ at → Same at' l' s t
  before at' l' h i a b = f.kept i (λ c d. absurd (omega arith))

  pub behind : (at' l' : ℕ) → at + l ≤ at' → Same at' l' s t
  behind at' l' h i a b = f.kept i (λ c d. absurd (omega arith))

-- one after another
pub both : {at l : ℕ} {s t u : List Float} → Outside at l s t → Outside at l t u → Outside at l s u
both f g = record { kept = λ i o. g.kept i o ∙ f.kept i o }

pub untouched : {at l : ℕ} (s : List Float) → Outside at l s s
untouched s = record { kept = λ i o. refl }

-- a place lies before another, or not
pub split : (i u : ℕ) → (i < u) ⊎ (u ≤ i)
split i u = go (ltb i u) refl
  where
    go : (b : Bool) → ltb i u ≡ b → (i < u) ⊎ (u ≤ i)
    go true e = inl (ltb-true i u e)
    go false e = inr (ltb-false i u e)

-- one of the first k + 1 is the last of them, or before it
pub or-less : (k i : ℕ) → i < suc k → (i ≡ k) ⊎ (i < k)
or-less k i h = eq-or-lt_of_le (omega arith)

-- ---- writers

pub set-outside : (s : List Float) (at : ℕ) (v : Float) → Outside at 1 s (set s at v)
set-outside s at v = record { kept = λ i o. get_or-set_other s at i v nan (λ e. o (omega arith) (omega arith)) }

pub put_vec3-outside : (s : List Float) (at : ℕ) (v : Vec3) → Outside at 3 s (put_vec3 s at v)
unfolding put_vec3
put_vec3-outside s at v =
    let s1 = set s at v.x in
    let s2 = set s1 (at + 1) v.y in
    both (wider (set-outside s at v.x) (omega arith) (omega arith))
    (both (wider (set-outside s1 (at + 1) v.y) (omega arith) (omega arith)) (wider (set-outside s2 (at + 2) v.z) (omega arith) (omega arith)))

-- two vectors in a row: a twist or a wrench
two_vec3-outside : (s : List Float) (at : ℕ) (v w : Vec3) → Outside at 6 s (put_vec3 (put_vec3 s at v) (at + 3) w)
two_vec3-outside s at v w =
    let s1 = put_vec3 s at v in
    both (wider (put_vec3-outside s at v) (omega arith) (omega arith)) (wider (put_vec3-outside s1 (at + 3) w) (omega arith) (omega arith))

pub put_twist-outside : (s : List Float) (at : ℕ) (v : Twist) → Outside at 6 s (put_twist s at v)
unfolding put_twist
put_twist-outside s at v = two_vec3-outside s at v.angular v.linear

pub put_wrench-outside : (s : List Float) (at : ℕ) (w : Wrench) → Outside at 6 s (put_wrench s at w)
unfolding put_wrench
put_wrench-outside s at w = two_vec3-outside s at w.torque w.force

pub put_mat3-outside : (s : List Float) (at : ℕ) (m : Mat3) → Outside at 9 s (put_mat3 s at m)
unfolding put_mat3
put_mat3-outside s at m =
    let s1 = put_vec3 s at m.r0 in
    let s2 = put_vec3 s1 (at + 3) m.r1 in
    both (wider (put_vec3-outside s at m.r0) (omega arith) (omega arith))
    (both (wider (put_vec3-outside s1 (at + 3) m.r1) (omega arith) (omega arith)) (wider (put_vec3-outside s2 (at + 6) m.r2) (omega arith) (omega arith)))

pub put_frame-outside : (s : List Float) (at : ℕ) (f : Frame) → Outside at 7 s (put_frame s at f)
unfolding put_frame
put_frame-outside s at f =
    let s1 = set s at f.rotation.w in
    let s2 = put_vec3 s1 (at + 1) f.rotation.u in
    both (wider (set-outside s at f.rotation.w) (omega arith) (omega arith))
    (both (wider (put_vec3-outside s1 (at + 1) f.rotation.u) (omega arith) (omega arith)) (wider (put_vec3-outside s2 (at + 4) f.translation) (omega arith) (omega arith)))

pub put_to-outside : (s : List Float) (at : ℕ) (m : List Float) (n : ℕ) → Outside at n s (put_to s at m n)
unfolding put_to
put_to-outside s at m zero = untouched s
put_to-outside s at m (suc n) =
    both (wider (put_to-outside s at m n) (omega arith) (omega arith)) (wider (set-outside (put_to s at m n) (at + n) (get_or m n nan)) (omega arith) (omega arith))

pub zero_to-outside : (s : List Float) (at n : ℕ) → Outside at n s (zero_to s at n)
unfolding zero_to
zero_to-outside s at zero = untouched s
zero_to-outside s at (suc n) =
    both (wider (zero_to-outside s at n) (omega arith) (omega arith)) (wider (set-outside (zero_to s at n) (at + n) 0·0) (omega arith) (omega arith))

-- ---- readers

-- tables by index with the same entries
tab-same : (f g : ℕ → Float) (n : ℕ) → ((i : ℕ) → i < n → f i ≡ g i) → tab f n ≡ tab g n
unfolding tab
tab-same f g zero h = refl
tab-same f g (suc n) h = λ k. tab-same f g n (λ i l. h i (omega arith)) k ++ h n (omega arith) k ∷ []

module _ (s t : List Float) where
  pub vec3-same : (at : ℕ) → Same at 3 s t → vec3_at t at ≡ vec3_at s at
  vec3-same at f k =
      record { x = f at (omega arith) (omega arith) k; y = f (at + 1) (omega arith) (omega arith) k; z = f (at + 2) (omega arith) (omega arith) k }

  pub twist-same : (at : ℕ) → Same at 6 s t → twist_at t at ≡ twist_at s at
  unfolding twist_at
  twist-same at f k =
      record {
        angular = vec3-same at (λ i a b. f i (omega arith) (omega arith)) k;
        linear = vec3-same (at + 3) (λ i a b. f i (omega arith) (omega arith)) k;
      }

  pub wrench-same : (at : ℕ) → Same at 6 s t → wrench_at t at ≡ wrench_at s at
  unfolding wrench_at
  wrench-same at f k =
      record {
        torque = vec3-same at (λ i a b. f i (omega arith) (omega arith)) k;
        force = vec3-same (at + 3) (λ i a b. f i (omega arith) (omega arith)) k;
      }

  pub frame_same : (at : ℕ) → Same at 7 s t → frame_at t at ≡ frame_at s at
  unfolding frame_at
  frame_same at f k =
      record {
        rotation = record { w = f at (omega arith) (omega arith) k; u = vec3-same (at + 1) (λ i a b. f i (omega arith) (omega arith)) k };
        translation = vec3-same (at + 4) (λ i a b. f i (omega arith) (omega arith)) k;
      }

  pub mat3-same : (at : ℕ) → Same at 9 s t → mat3_at t at ≡ mat3_at s at
  unfolding mat3_at
  mat3-same at f k =
      record {
        r0 = vec3-same at (λ i a b. f i (omega arith) (omega arith)) k;
        r1 = vec3-same (at + 3) (λ i a b. f i (omega arith) (omega arith)) k;
        r2 = vec3-same (at + 6) (λ i a b. f i (omega arith) (omega arith)) k;
      }

  pub part_same : (at n : ℕ) → Same at n s t → part_of t at n ≡ part_of s at n
  unfolding part_of
  part_same at n f = tab-same (λ i. get_or t (at + i) nan) (λ i. get_or s (at + i) nan) n (λ i l. f (at + i) (omega arith) (omega arith))

  pub mat6-same : (at : ℕ) → Same at 36 s t → mat6_at t at ≡ mat6_at s at
  unfolding mat6_at
  mat6-same at f = tab-same (λ i. get_or t (at + i) nan) (λ i. get_or s (at + i) nan) 36 (λ i l. f (at + i) (omega arith) (omega arith))

-- ---- a cleared list

-- every number that it has is +0.0
pub cleared-zero : (s : List Float) (i : ℕ) → i < length s → get_or (cleared s) i nan ≡ 0·0
unfolding cleared
cleared-zero s i h = get_or-tab (λ j. 0·0) nan (length s) i h
