-- THE ROTOR OF ONE JOINT changes no number of the matrix but the joint's own diagonal entry, on either root. Assumes nothing.
use mathlib.Core.List.{List}
use mathlib.Core.Path.{◌≡◌, refl, sym, ap, ◌∙◌}
use Prim.Native.Nat.{ℕ, ◌+◌, ◌<◌}
use native.Mathlib.Omega.{arith}
use lib.ListN.{length, get_or, set}
use lib.Seq.{get_or-set_other}
use lib.Ieee.{Float, nan}
use Rattle.numbers.proofs.Tables.{get_or-tab}
use Rattle.slots.specs.Slots.{part_of}
use Rattle.slots.proofs.Alike.{Alike, cleared-alike}
use Rattle.arm.specs.Topology.{active_numbers}
use Rattle.arm.specs.declared.model.Model.{Model}
use Rattle.calls.specs.Plan.{plan_by, plan_of}
use Rattle.calls.specs.declared.plan.Plan.{Plan}
use Rattle.calls.proofs.Pairs.{accepted-fine, Written, both-written}
use Rattle.composites.specs.Plan.{matrix_place}
use Rattle.matrix_visits.proofs.Rotors.{Shared, visit-alike}
use Rattle.mass_matrix.specs.MassMatrix.{mass_matrix, floats, rotation_of, Ready}
use Rattle.mass_matrix.specs.declared.mass_matrix.Mode.{Mode}
use Rattle.mass_matrix.proofs.Ready.{plan-ready}
use Rattle.mass_matrix.proofs.Sound.{visit-ends}
use Rattle.claims.specs.Rotors.{with_rotors, Accepts, matrix_of, diagonal_of, RotorAt}

module _ (mode : Mode) (m : Model) (rotors q ws ws' out out' : List Float) (a : Accepts mode m q ws out) (b : Accepts mode (with_rotors m rotors) q ws' out') where
  abbrev p : Plan
  p = plan_of (floats mode) m.n m.kinds

  -- what the checks of both have shown
  ready : Ready p m.parents m.kinds (active_numbers m.kinds) (length q) (length ws) (length out)
  unfolding mass_matrix
  ready = plan-ready (floats mode) (rotation_of mode) m.n m.parents m.kinds q (length ws) (length out) (accepted-fine (mass_matrix mode m q) ws out a) _ _ _ refl refl refl

  ready' : Ready p m.parents m.kinds (active_numbers m.kinds) (length q) (length ws') (length out')
  unfolding mass_matrix
  ready' = plan-ready (floats mode) (rotation_of mode) m.n m.parents m.kinds q (length ws') (length out') (accepted-fine (mass_matrix mode (with_rotors m rotors) q) ws' out' b) _ _ _ refl refl refl

  abbrev Both : List Float → List Float → Type 0
  Both = Alike (Shared p (rotation_of mode) m q rotors ready.fit.good.tree.below)

  written : Written Both (matrix_place m.n) (matrix_place m.n) (length out) (length out') (matrix_of mode m q ws out) (matrix_of mode (with_rotors m rotors) q ws' out')
  unfolding mass_matrix plan_by
  written =
      both-written (mass_matrix mode m q) (mass_matrix mode (with_rotors m rotors) q) Both
      (visit-alike p (rotation_of mode) m q rotors ready.fit.good.tree.below)
      (λ k s t. visit-ends p (rotation_of mode) m q k s ∙ sym (visit-ends p (rotation_of mode) (with_rotors m rotors) q k t))
      out out' ws ws' refl (cleared-alike ws ws' (λ i c. (omega (arith, c.within, ready.room.room), omega (arith, c.within, ready'.room.room)))) a b

  -- a number that is the diagonal entry of no active joint, but of those that have the same rotor in both, is the same in both
  pub same-entry : (i : ℕ) → i < length out → ((j : ℕ) → diagonal_of mode m j ≡ i → RotorAt m rotors j)
      → get_or (matrix_of mode m q ws out) i nan ≡ get_or (matrix_of mode (with_rotors m rotors) q ws' out') i nan
  unfolding part_of diagonal_of plan_by
  same-entry i l f =
      let place = matrix_place m.n + i in
      let w = written in
      rw (w.first, w.second)
      (get_or-tab _ nan (length out) i l
      ∙ (w.related.at place (record { within = omega (arith, ready.output); rotor = λ j g act e. f j (omega (arith, e)) g act })).2
      ∙ sym (get_or-tab _ nan (length out') i (omega (arith, ready.output, ready'.output))))

-- one joint's rotor
pub own-entry : (mode : Mode) (m : Model) (j : ℕ) (rotor : Float) (q ws ws' out out' : List Float) → Accepts mode m q ws out → Accepts mode (with_rotors m (set m.rotors j rotor)) q ws' out'
    → (i : ℕ) → i < length out → (i ≡ diagonal_of mode m j → ⊥)
    → get_or (matrix_of mode m q ws out) i nan ≡ get_or (matrix_of mode (with_rotors m (set m.rotors j rotor)) q ws' out') i nan
own-entry mode m j rotor q ws ws' out out' a b i l n =
    same-entry mode m (set m.rotors j rotor) q ws ws' out out' a b i l
    (λ k e g act. sym (get_or-set_other m.rotors j k rotor nan (λ d. n (sym e ∙ ap (diagonal_of mode m) d))))
