-- Composites in a workspace: what is put there leaves every other number, and is read back. Assumes nothing.
use mathlib.Core.List.{List}
use mathlib.Core.Path.{◌≡◌, ◌∙◌}
use Prim.Native.Nat.{ℕ, ◌+◌, ◌≤◌}
use native.Mathlib.Omega.{arith}
use lib.ListN.{length, set, length-set}
use lib.Seq.{get_or-set_same}
use lib.Ieee.{Float, nan}
use Rattle.slots.specs.Slots.{put_vec3, put_mat3}
use Rattle.slots.proofs.Lengths.{length-put_vec3, length-put_mat3}
use Rattle.slots.proofs.Blocks.{Outside, Same, wider, before, both, set-outside, put_vec3-outside, put_mat3-outside, vec3-same, mat3-same}
use Rattle.slots.proofs.Puts.{vec3-put, mat3-put}
use Rattle.arm.specs.declared.model.Link.{Link}
use Rattle.composites.specs.Composite.{composite_at, put_composite}

pub length-put_composite : (s : List Float) (at : ℕ) (c : Link) → length (put_composite s at c) ≡ length s
unfolding put_composite
length-put_composite s at c = simp (length-put_mat3, length-put_vec3, length-set)

pub put_composite-outside : (s : List Float) (at : ℕ) (c : Link) → Outside at 13 s (put_composite s at c)
unfolding put_composite
put_composite-outside s at c =
    let s1 = set s at c.mass in
    let s2 = put_vec3 s1 (at + 1) c.moment in
    both (wider (set-outside s at c.mass) (omega arith) (omega arith))
    (both (wider (put_vec3-outside s1 (at + 1) c.moment) (omega arith) (omega arith)) (wider (put_mat3-outside s2 (at + 4) c.inertia) (omega arith) (omega arith)))

pub composite-same : (s t : List Float) (at : ℕ) → Same at 13 s t → composite_at t at ≡ composite_at s at
unfolding composite_at
composite-same s t at f k =
    record {
      mass = f at (omega arith) (omega arith) k;
      moment = vec3-same s t (at + 1) (λ i a b. f i (omega arith) (omega arith)) k;
      inertia = mat3-same s t (at + 4) (λ i a b. f i (omega arith) (omega arith)) k;
    }

pub composite-put : (s : List Float) (at : ℕ) (c : Link) → at + 13 ≤ length s → composite_at (put_composite s at c) at ≡ c
unfolding put_composite composite_at
composite-put s at c h k =
    let s1 = set s at c.mass in
    let s2 = put_vec3 s1 (at + 1) c.moment in
    let s3 = put_mat3 s2 (at + 4) c.inertia in
    let l1 = length-set s at c.mass in
    let l2 = length-put_vec3 s1 (at + 1) c.moment in
    record {
      mass = ((put_mat3-outside s2 (at + 4) c.inertia).kept at (λ a b. omega arith) ∙ (put_vec3-outside s1 (at + 1) c.moment).kept at (λ a b. omega arith)
          ∙ get_or-set_same s at c.mass nan (omega arith)) k;
      moment = (vec3-same s2 s3 (at + 1) (before (put_mat3-outside s2 (at + 4) c.inertia) (at + 1) 3 (omega arith))
          ∙ vec3-put s1 (at + 1) c.moment (omega arith)) k;
      inertia = mat3-put s2 (at + 4) c.inertia (omega arith) k;
    }
