-- Whatever is put into a list of numbers, its length stays. Assumes nothing.
use mathlib.Core.List.{List}
use mathlib.Core.Path.{◌≡◌, refl, ◌∙◌}
use Prim.Native.Nat.{ℕ, zero, suc, ◌+◌}
use lib.ListN.{length, get_or, length-set}
use lib.Ieee.{Float, nan}
use Rattle.numbers.specs.Double.{0·0}
use Rattle.numbers.specs.declared.vec3.Vec3.{Vec3}
use Rattle.numbers.specs.declared.mat3.Mat3.{Mat3}
use Rattle.numbers.proofs.Tables.{length-tab}
use Rattle.spatial.specs.declared.frame.Frame.{Frame}
use Rattle.spatial.specs.declared.twist.Twist.{Twist}
use Rattle.spatial.specs.declared.wrench.Wrench.{Wrench}
use Rattle.slots.specs.Slots.{put_vec3, put_mat3, put_to, put_twist, put_wrench, put_frame, zero_to, cleared}

module _ (s : List Float) (at : ℕ) where
  pub length-put_vec3 : (v : Vec3) → length (put_vec3 s at v) ≡ length s
  unfolding put_vec3
  length-put_vec3 v = simp length-set

  pub length-put_to : (m : List Float) (n : ℕ) → length (put_to s at m n) ≡ length s
  unfolding put_to
  length-put_to m zero = refl
  length-put_to m (suc n) = length-set (put_to s at m n) (at + n) (get_or m n nan) ∙ length-put_to m n

  pub length-zero_to : (n : ℕ) → length (zero_to s at n) ≡ length s
  unfolding zero_to
  length-zero_to zero = refl
  length-zero_to (suc n) = length-set (zero_to s at n) (at + n) 0·0 ∙ length-zero_to n

module _ (s : List Float) (at : ℕ) where
  pub length-put_mat3 : (m : Mat3) → length (put_mat3 s at m) ≡ length s
  unfolding put_mat3
  length-put_mat3 m = simp length-put_vec3

  pub length-put_twist : (v : Twist) → length (put_twist s at v) ≡ length s
  unfolding put_twist
  length-put_twist v = simp length-put_vec3

  pub length-put_wrench : (w : Wrench) → length (put_wrench s at w) ≡ length s
  unfolding put_wrench
  length-put_wrench w = simp length-put_vec3

  pub length-put_frame : (f : Frame) → length (put_frame s at f) ≡ length s
  unfolding put_frame
  length-put_frame f = simp (length-put_vec3, length-set)

pub length-cleared : (s : List Float) → length (cleared s) ≡ length s
unfolding cleared
length-cleared s = length-tab _ (length s)
