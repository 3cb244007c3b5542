-- Two lists that have the same numbers at some places: what is put into both leaves them so. Assumes nothing.
use mathlib.Core.Bool.{Bool, true, false}
use mathlib.Core.List.{List}
use mathlib.Core.Path.{◌≡◌, refl, sym, ◌∙◌}
use Prim.Native.Nat.{ℕ, zero, suc, ◌+◌, ◌≤◌, ◌<◌}
use native.Mathlib.Omega.{arith}
use borrow.Author.Tests.{eqb-true, eqb-false}
use lib.Dec.{eqb}
use lib.ListN.{length, get_or, set, length-set}
use lib.Seq.{get_or-set_same, get_or-set_other}
use lib.Ieee.{Float, nan}
use Rattle.numbers.specs.Double.{0·0}
use Rattle.numbers.specs.declared.vec3.Vec3.{Vec3}
use Rattle.numbers.specs.declared.mat3.Mat3.{Mat3}
use Rattle.spatial.specs.declared.frame.Frame.{Frame}
use Rattle.spatial.specs.declared.wrench.Wrench.{Wrench}
use Rattle.slots.specs.Slots.{put_vec3, put_mat3, put_wrench, put_frame, zero_to, cleared}
use Rattle.slots.proofs.Blocks.{Same, cleared-zero}
use Rattle.slots.proofs.Lengths.{length-cleared}

-- both have a number at place i, and it is the same
abbrev pub AlikeAt : ℕ → List Float → List Float → Type 0
AlikeAt i s t = (i < length s) × (i < length t) × (get_or s i nan ≡ get_or t i nan)

pub record Alike (P : ℕ → Type 0) (s t : List Float) : Type 0 where
  pub at : (i : ℕ) → P i → AlikeAt i s t

module _ {P : ℕ → Type 0} {s t : List Float} (h : Alike P s t) where
  -- two numbers at one place, the same where it counts
  pub set-alike : (place : ℕ) {v w : Float} → (P place → v ≡ w) → Alike P (set s place v) (set t place w)
  set-alike place {v = v} {w = w} e = record { at = λ i p. go i p (eqb i place) (eqb-true i place) (eqb-false i place) }
    where
      here : (i : ℕ) → P i → i ≡ place → get_or (set s place v) i nan ≡ get_or (set t place w) i nan
      here i p d =
          let b = h.at i p in
          rw d (get_or-set_same s place v nan (omega (arith, b.0, d)) ∙ e (rw d at p) ∙ sym (get_or-set_same t place w nan (omega (arith, b.1, d))))

      apart : (i : ℕ) → P i → (i ≡ place → ⊥) → get_or (set s place v) i nan ≡ get_or (set t place w) i nan
      apart i p n = get_or-set_other s place i v nan n ∙ (h.at i p).2 ∙ sym (get_or-set_other t place i w nan n)

      go : (i : ℕ) → P i → (b : Bool) → (b ≡ true → i ≡ place) → (b ≡ false → i ≡ place → ⊥) → AlikeAt i (set s place v) (set t place w)
      go i p true f g = (rw (length-set s place v) (h.at i p).0, rw (length-set t place w) (h.at i p).1, here i p (f refl))
      go i p false f g = (rw (length-set s place v) (h.at i p).0, rw (length-set t place w) (h.at i p).1, apart i p (g refl))

  -- the same number
  pub put-alike : (place : ℕ) (v : Float) → Alike P (set s place v) (set t place v)
  put-alike place v = set-alike place (λ p. refl)

  -- a block of such places reads the same
  pub block-alike : (at l : ℕ) → ((i : ℕ) → at ≤ i → i < at + l → P i) → Same at l t s
  block-alike at l f i a b = (h.at i (f i a b)).2

module _ {P : ℕ → Type 0} where
  pub vec3-alike : {s t : List Float} → Alike P s t → (at : ℕ) (v : Vec3) → Alike P (put_vec3 s at v) (put_vec3 t at v)
  unfolding put_vec3
  vec3-alike h at v = put-alike (put-alike (put-alike h at v.x) (at + 1) v.y) (at + 2) v.z

  pub mat3-alike : {s t : List Float} → Alike P s t → (at : ℕ) (m : Mat3) → Alike P (put_mat3 s at m) (put_mat3 t at m)
  unfolding put_mat3
  mat3-alike h at m = vec3-alike (vec3-alike (vec3-alike h at m.r0) (at + 3) m.r1) (at + 6) m.r2

  pub wrench-alike : {s t : List Float} → Alike P s t → (at : ℕ) (w : Wrench) → Alike P (put_wrench s at w) (put_wrench t at w)
  unfolding put_wrench
  wrench-alike h at w = vec3-alike (vec3-alike h at w.torque) (at + 3) w.force

  pub frame-alike : {s t : List Float} → Alike P s t → (at : ℕ) (f : Frame) → Alike P (put_frame s at f) (put_frame t at f)
  unfolding put_frame
  frame-alike h at f = vec3-alike (vec3-alike (put-alike h at f.rotation.w) (at + 1) f.rotation.u) (at + 4) f.translation

  pub zero-alike : {s t : List Float} → Alike P s t → (at n : ℕ) → Alike P (zero_to s at n) (zero_to t at n)
  unfolding zero_to
  zero-alike h at zero = h
  zero-alike h at (suc n) = put-alike (zero-alike h at n) (at + n) 0·0

  -- both cleared, where both have the places
  pub cleared-alike : (s t : List Float) → ((i : ℕ) → P i → (i < length s) × (i < length t)) → Alike P (cleared s) (cleared t)
  cleared-alike s t f =
      record {
        at = λ i p. (rw (length-cleared s) (f i p).0, rw (length-cleared t) (f i p).1, cleared-zero s i (f i p).0 ∙ sym (cleared-zero t i (f i p).1));
      }
