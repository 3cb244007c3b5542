-- A list that is filled with vectors, three stores a turn. Assumes nothing.
use mathlib.Core.List.{List}
use mathlib.Core.Path.{◌≡◌, ap, ◌∙◌, subst}
use Prim.Native.Nat.{ℕ, ◌+◌, ◌*◌, ◌/◌, ◌%◌, ◌<◌}
use native.Mathlib.Omega.{arith}
use lib.ListN.{set}
use lib.Ieee.{Float}
use Rattle.numbers.specs.Vec3.{comp}
use Rattle.numbers.specs.declared.vec3.Vec3.{Vec3}
use Rattle.numbers.proofs.Filled.{Filled, more}
use Rattle.slots.specs.Slots.{put_vec3}

module _ (f : ℕ → Vec3) where
  -- the components of f 0, f 1, ..
  abbrev pub threes : ℕ → Float
  threes t = comp (f (t / 3)) (t % 3)

  part : (j t k : ℕ) → t / 3 ≡ j → t % 3 ≡ k → comp (f j) k ≡ threes t
  part j t k d m = rw (d, m)

  pub more-threes : (m : List Float) (j : ℕ) (v : Vec3) → Filled threes 96 m (j * 3) → j < 32 → v ≡ f j
      → Filled threes 96 (put_vec3 m (j * 3) v) ((j + 1) * 3)
  unfolding put_vec3
  more-threes m j v h l e =
      let a = more threes 96 m (j * 3) v.x h (omega arith) (ap (λ (w : Vec3). w.x) e ∙ part j (j * 3) 0 (omega arith) (omega arith)) in
      let b = more threes 96 (set m (j * 3) v.x) (j * 3 + 1) v.y a (omega arith) (ap (λ (w : Vec3). w.y) e ∙ part j (j * 3 + 1) 1 (omega arith) (omega arith)) in
      let p : j * 3 + 1 + 1 ≡ j * 3 + 2 = omega arith in
      let q : j * 3 + 2 + 1 ≡ (j + 1) * 3 = omega arith in
      subst (Filled threes 96 (set (set (set m (j * 3) v.x) (j * 3 + 1) v.y) (j * 3 + 2) v.z)) q
      (more threes 96 (set (set m (j * 3) v.x) (j * 3 + 1) v.y) (j * 3 + 2) v.z
      (subst (Filled threes 96 (set (set m (j * 3) v.x) (j * 3 + 1) v.y)) p b)
      (omega arith)
      (ap (λ (w : Vec3). w.z) e ∙ part j (j * 3 + 2) 2 (omega arith) (omega arith)))
