-- What is put into a list of numbers is read back; of two at one place the later stands; two that lie apart go in either order. Assumes nothing.
use mathlib.Core.List.{List}
use mathlib.Core.Logic.{⊎_elim}
use mathlib.Core.Path.{◌≡◌, ◌∙◌}
use Prim.Native.Nat.{ℕ, zero, suc, ◌+◌, ◌≤◌, ◌<◌}
use native.Mathlib.Nat.{eq-or-lt_of_le}
use native.Mathlib.Omega.{arith}
use lib.ListN.{length, get_or, set, length-set}
use lib.Seq.{get_or-set_same, set-set, set_comm}
use lib.Ieee.{Float, nan}
use Rattle.numbers.specs.Double.{0·0}
use Rattle.numbers.specs.declared.vec3.Vec3.{Vec3}
use Rattle.numbers.specs.declared.mat3.Mat3.{Mat3}
use Rattle.spatial.specs.declared.frame.Frame.{Frame}
use Rattle.spatial.specs.declared.wrench.Wrench.{Wrench}
use Rattle.slots.specs.Slots.{vec3_at, put_vec3, mat3_at, put_mat3, frame_at, put_frame, wrench_at, put_wrench, zero_to}
use Rattle.slots.proofs.Blocks.{before, set-outside, put_vec3-outside, vec3-same}
use Rattle.slots.proofs.Lengths.{length-put_vec3, length-zero_to}

-- ---- vectors

pub vec3-put : (s : List Float) (at : ℕ) (v : Vec3) → at + 3 ≤ length s → vec3_at (put_vec3 s at v) at ≡ v
unfolding put_vec3
vec3-put s at v h k =
    let s1 = set s at v.x in
    let s2 = set s1 (at + 1) v.y in
    let l1 = length-set s at v.x in
    let l2 = length-set s1 (at + 1) v.y in
    record {
      x = ((set-outside s2 (at + 2) v.z).kept at (λ a b. omega arith) ∙ (set-outside s1 (at + 1) v.y).kept at (λ a b. omega arith) ∙ get_or-set_same s at v.x nan (omega arith)) k;
      y = ((set-outside s2 (at + 2) v.z).kept (at + 1) (λ a b. omega arith) ∙ get_or-set_same s1 (at + 1) v.y nan (omega arith)) k;
      z = get_or-set_same s2 (at + 2) v.z nan (omega arith) k;
    }

-- a number set behind a vector can be set before it
set_past : (s : List Float) (at : ℕ) (v : Vec3) (i : ℕ) (x : Float) → (at ≤ i → i < at + 3 → ⊥) → set (put_vec3 s at v) i x ≡ put_vec3 (set s i x) at v
unfolding put_vec3
set_past s at v i x o =
    rw (set_comm _ (at + 2) i _ x (λ e. o (omega arith) (omega arith)), set_comm _ (at + 1) i _ x (λ e. o (omega arith) (omega arith)), set_comm _ at i _ x (λ e. o (omega arith) (omega arith)))

vec3-apart : (s : List Float) (a b : ℕ) (v w : Vec3) → a + 3 ≤ b → put_vec3 (put_vec3 s a v) b w ≡ put_vec3 (put_vec3 s b w) a v
unfolding put_vec3
vec3-apart s a b v w h =
    rw (set_past s a v b w.x (λ c d. omega arith), set_past _ a v (b + 1) w.y (λ c d. omega arith), set_past _ a v (b + 2) w.z (λ c d. omega arith))

vec3-again : (s : List Float) (at : ℕ) (v w : Vec3) → put_vec3 (put_vec3 s at v) at w ≡ put_vec3 s at w
unfolding put_vec3
vec3-again s at v w =
    rw (set_comm _ (at + 2) at _ w.x (λ e. omega arith), set_comm _ (at + 1) at _ w.x (λ e. omega arith), set-set s at, set_comm _ (at + 2) (at + 1) _ w.y (λ e. omega arith), set-set _ (at + 1), set-set _ (at + 2))

-- ---- matrices and frames

pub mat3-put : (s : List Float) (at : ℕ) (m : Mat3) → at + 9 ≤ length s → mat3_at (put_mat3 s at m) at ≡ m
unfolding put_mat3 mat3_at
mat3-put s at m h k =
    let s1 = put_vec3 s at m.r0 in
    let s2 = put_vec3 s1 (at + 3) m.r1 in
    let s3 = put_vec3 s2 (at + 6) m.r2 in
    let l1 = length-put_vec3 s at m.r0 in
    let l2 = length-put_vec3 s1 (at + 3) m.r1 in
    record {
      r0 = (vec3-same s2 s3 at (before (put_vec3-outside s2 (at + 6) m.r2) at 3 (omega arith))
          ∙ vec3-same s1 s2 at (before (put_vec3-outside s1 (at + 3) m.r1) at 3 (omega arith)) ∙ vec3-put s at m.r0 (omega arith)) k;
      r1 = (vec3-same s2 s3 (at + 3) (before (put_vec3-outside s2 (at + 6) m.r2) (at + 3) 3 (omega arith)) ∙ vec3-put s1 (at + 3) m.r1 (omega arith)) k;
      r2 = vec3-put s2 (at + 6) m.r2 (omega arith) k;
    }

pub frame-put : (s : List Float) (at : ℕ) (f : Frame) → at + 7 ≤ length s → frame_at (put_frame s at f) at ≡ f
unfolding put_frame frame_at
frame-put s at f h k =
    let s1 = set s at f.rotation.w in
    let s2 = put_vec3 s1 (at + 1) f.rotation.u in
    let s3 = put_vec3 s2 (at + 4) f.translation in
    let l1 = length-set s at f.rotation.w in
    let l2 = length-put_vec3 s1 (at + 1) f.rotation.u in
    record {
      rotation = record {
        w = ((put_vec3-outside s2 (at + 4) f.translation).kept at (λ a b. omega arith) ∙ (put_vec3-outside s1 (at + 1) f.rotation.u).kept at (λ a b. omega arith)
            ∙ get_or-set_same s at f.rotation.w nan (omega arith)) k;
        u = (vec3-same s2 s3 (at + 1) (before (put_vec3-outside s2 (at + 4) f.translation) (at + 1) 3 (omega arith))
            ∙ vec3-put s1 (at + 1) f.rotation.u (omega arith)) k;
      };
      translation = vec3-put s2 (at + 4) f.translation (omega arith) k;
    }

-- ---- wrenches

pub wrench-put : (s : List Float) (at : ℕ) (w : Wrench) → at + 6 ≤ length s → wrench_at (put_wrench s at w) at ≡ w
unfolding put_wrench wrench_at
wrench-put s at w h k =
    let s1 = put_vec3 s at w.torque in
    let l = length-put_vec3 s at w.torque in
    record {
      torque = (vec3-same s1 (put_vec3 s1 (at + 3) w.force) at (before (put_vec3-outside s1 (at + 3) w.force) at 3 (omega arith)) ∙ vec3-put s at w.torque (omega arith)) k;
      force = vec3-put s1 (at + 3) w.force (omega arith) k;
    }

pub wrench-apart : (s : List Float) (a b : ℕ) (v w : Wrench) → a + 6 ≤ b → put_wrench (put_wrench s a v) b w ≡ put_wrench (put_wrench s b w) a v
unfolding put_wrench
wrench-apart s a b v w h =
    rw (
      vec3-apart (put_vec3 s a v.torque) (a + 3) b v.force w.torque (omega arith),
      vec3-apart s a b v.torque w.torque (omega arith),
      vec3-apart (put_vec3 (put_vec3 s b w.torque) a v.torque) (a + 3) (b + 3) v.force w.force (omega arith),
      vec3-apart (put_vec3 s b w.torque) a (b + 3) v.torque w.force (omega arith),
    )

pub wrench-again : (s : List Float) (at : ℕ) (v w : Wrench) → put_wrench (put_wrench s at v) at w ≡ put_wrench s at w
unfolding put_wrench
wrench-again s at v w =
    rw (← vec3-apart (put_vec3 s at v.torque) at (at + 3) w.torque v.force (omega arith), vec3-again s at v.torque w.torque, vec3-again (put_vec3 s at w.torque) (at + 3) v.force w.force)

-- ---- zeros

-- n numbers from `at` on are +0.0
pub zeroed : (s : List Float) (at n : ℕ) → at + n ≤ length s → (i : ℕ) → at ≤ i → i < at + n → get_or (zero_to s at n) i nan ≡ 0·0
unfolding zero_to
zeroed s at zero h i a b = absurd (omega arith)
zeroed s at (suc n) h i a b = ⊎_elim here (λ g. further g (zeroed s at n (omega arith) i a g)) (eq-or-lt_of_le (omega arith))
  where
    here : i ≡ at + n → get_or (set (zero_to s at n) (at + n) 0·0) i nan ≡ 0·0
    here e = rw e (get_or-set_same (zero_to s at n) (at + n) 0·0 nan (omega (arith, length-zero_to s at n)))

    further : i < at + n → get_or (zero_to s at n) i nan ≡ 0·0 → get_or (set (zero_to s at n) (at + n) 0·0) i nan ≡ 0·0
    further g e = (set-outside (zero_to s at n) (at + n) 0·0).kept i (λ c d. absurd (omega arith)) ∙ e
