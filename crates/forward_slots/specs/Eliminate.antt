-- An active joint's terms are worked out, tested and kept (`forward_dynamics.rs`). Definitions only.
use Rattle.std.specs.Prelude.{Bool, true, false, cond, List, ℕ, ◌+◌, get_or, Float, Ok, Err}
use Rattle.std.specs.Float.{nan}
use Rattle.refusals.specs.Refusals.{Verdict, fine}
use Rattle.slots.specs.Slots.{wrench_at, mat6_at}
use Rattle.arm.specs.declared.joint.Motion.{Motion}
use Rattle.arm.specs.declared.joint.Motion.TheVariants.{Turn, Slide, Fixed}
use Rattle.articulated.specs.Second.{term_of, judged_term}
use Rattle.articulated.specs.declared.second.Term.{Term}
use Rattle.calls.specs.declared.plan.Plan.{Plan}
use Rattle.forward_slots.specs.Layout.{inertia_place, force_place, term_place}
use Rattle.forward_slots.specs.Term.{put_term}

-- a fixed joint's motion; a turn and a slide are active
abbrev pub fixed_by : Motion → Bool
fixed_by (Turn axis) = false
fixed_by (Slide axis) = false
fixed_by Fixed = true

-- an active joint's terms, of the whole inertia, with the force at a place of the forces
unfoldable pub new_term : Motion → Float → List Float → ℕ → ℕ → List Float → Term
new_term motion rotor forces j place ws = term_of motion rotor (mat6_at ws (inertia_place j)) (wrench_at ws (force_place j)) (get_or forces place nan)

-- a visit that refuses changes nothing more
unfoldable pub unless_refused : Verdict → List Float → Verdict × List Float → Verdict × List Float
unless_refused (Ok u) ws done = done
unless_refused (Err r) ws done = (Err r, ws)

-- they are tested, then kept
unfoldable pub kept_term : Term → ℕ → ℕ → List Float → Verdict × List Float
kept_term t number j ws = unless_refused (judged_term t.d number) ws (fine, put_term ws (term_place j) t)

-- `number` is the joint's active number
unfoldable pub eliminated : Plan → Motion → Float → ℕ → List Float → ℕ → List Float → Verdict × List Float
eliminated p motion rotor number forces j ws = cond (fixed_by motion) (fine, ws) (kept_term (new_term motion rotor forces j (p.lead + number) ws) number j ws)
