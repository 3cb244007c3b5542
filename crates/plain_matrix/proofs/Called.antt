-- The plain call, put together from what its parts answered. Assumes nothing.
use mathlib.Core.Bool.{Bool, true, false, cond}
use mathlib.Core.List.{List}
use mathlib.Core.Path.{◌≡◌, refl, sym, ap, ◌∙◌}
use Prim.Native.Nat.{ℕ, ◌+◌, ◌*◌, ◌≤◌}
use lib.ListN.{length}
use lib.Ieee.{Float}
use Rattle.numbers.specs.Double.{all_finite}
use Rattle.numbers.specs.declared.quaternion.Quaternion.{Quaternion}
use Rattle.std.specs.Prelude.{None, Err}
use Rattle.refusals.specs.Refusals.{Verdict, fine, refusal}
use Rattle.refusals.specs.declared.Refusal.{Refusal}
use Rattle.arm.specs.Topology.{actives_of, active_numbers}
use Rattle.arm.specs.declared.model.Model.{Model}
use Rattle.calls.specs.Plan.{plan_by, plan_of}
use Rattle.calls.specs.declared.plan.Plan.{Plan}
use Rattle.calls.specs.declared.position.Outcome.{Outcome}
use Rattle.calls.specs.declared.position.Outcome.TheVariants.{Accepted}
use Rattle.calls.specs.declared.position.Outcome.TheVariants as outcome
use Rattle.plain_entries.specs.Arm.{arm_of}
use Rattle.mass_matrix.specs.MassMatrix.{floats, rotation_of, Ready}
use Rattle.mass_matrix.specs.declared.mass_matrix.Mode.{Mode}
use Rattle.plain_matrix.specs.PlainMatrix.{plain_entries, plain_matrix, plain_verdict, plain_call}
use Rattle.plain_matrix.proofs.Verdicts.{room, ready}

module _ (mode : Mode) (m : Model) (q out : List Float) {v : Verdict} (ev : v ≡ plain_verdict (floats mode) (rotation_of mode) m.n m.parents m.kinds q (length out)) where
  pub call-refused : (e : Refusal) → v ≡ Err e → ◌≡◌ {A = Outcome × List Float} (outcome.Refused e, out) (plain_call mode m q out)
  unfolding plain_call
  call-refused e h = rw (sym ev ∙ h)

  module _ (e : v ≡ fine) {f : Bool} (ef : f ≡ floats mode) {a : ℕ} (ea : a ≡ actives_of m.kinds m.n) {p : Plan} (ep : p ≡ plan_by f m.n a) {r : Quaternion} (er : r ≡ rotation_of mode) where
    -- what the checks have shown of the plan that the code works out
    is-plan : p ≡ plan_by (floats mode) m.n a
    is-plan = rw ep (ap (λ (b : Bool). plan_by b m.n a) ef)

    shown : Ready p m.parents m.kinds (active_numbers m.kinds) (length q) (room (floats mode) (rotation_of mode) m.n m.parents m.kinds q (length out)) (length out)
    shown = ready (floats mode) (rotation_of mode) m.n m.parents m.kinds q (length out) (sym ev ∙ e) (active_numbers m.kinds) refl a ea is-plan

    joints : p.n ≡ m.n
    unfolding plan_by
    joints = rw ep

    pub values : length q ≡ actives_of m.kinds m.n
    values = shown.values ∙ ap (actives_of m.kinds) joints

    sided : p.side ≡ p.lead + actives_of m.kinds m.n
    sided = shown.fit.sided ∙ ap (λ (n : ℕ). p.lead + actives_of m.kinds n) joints

    pub fits : (p.lead ≤ 6) × (p.side ≡ p.lead + actives_of m.kinds m.n) × (p.side ≤ 38)
    fits = (shown.fit.led, sided, shown.room.small)

    pub takes : (p.lead ≤ 6) × (p.side ≡ p.lead + actives_of m.kinds m.n) × (length out ≡ p.side * p.side)
    takes = (shown.fit.led, sided, shown.output)

    abbrev mine : List Float
    mine = plain_entries (arm_of m q) p r m.kinds

    mine-is : mine ≡ plain_entries (arm_of m q) (plan_of (floats mode) m.n m.kinds) (rotation_of mode) m.kinds
    mine-is = rw (ep, ea, ef, er)

    call-is : plain_call mode m q out ≡ cond (all_finite mine) (Accepted, mine) (outcome.Refused (refusal 37 None), out)
    unfolding plain_call plain_matrix
    call-is = rw (sym ev ∙ e, mine-is)

    module _ {b : Bool} (g : b ≡ all_finite mine) where
      pub call-accepted : b ≡ true → {out' : List Float} → out' ≡ mine → ◌≡◌ {A = Outcome × List Float} (Accepted, out') (plain_call mode m q out)
      call-accepted t h = rw (call-is, sym g ∙ t, h)

      pub call-37 : b ≡ false → ◌≡◌ {A = Outcome × List Float} (outcome.Refused (refusal 37 None), out) (plain_call mode m q out)
      call-37 t = rw (call-is, sym g ∙ t)
