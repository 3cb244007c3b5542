-- THE TWO ENGINES: the fast one and the plain one give equal bits or the same refusal, 10 excepted, on either root (document 02, item 10). Assumes nothing.
use mathlib.Core.Bool.{Bool, true, false, cond}
use mathlib.Core.List.{List}
use mathlib.Core.Logic.{⊎_elim}
use mathlib.Core.Path.{◌≡◌, refl, sym, ap, ◌∙◌}
use Prim.Native.Nat.{ℕ, suc, ◌+◌, ◌-◌, ◌*◌, ◌/◌, ◌%◌, ◌≤◌, ◌<◌}
use native.Mathlib.Nat.{div-add-mod'}
use native.Mathlib.Omega.{arith}
use borrow.Author.Tests.{le-ltb, lt-ltb}
use lib.ListN.{length, get_or, take, drop, length-drop}
use lib.Seq.{ext_get_or, get_or-take, get_or-drop, length-take-le}
use lib.Ieee.{Float, nan}
use Rattle.numbers.specs.Double.{all_finite}
use Rattle.numbers.specs.Table.{tab}
use Rattle.numbers.proofs.Tables.{length-tab, get_or-tab}
use Rattle.numbers.specs.declared.quaternion.Quaternion.{Quaternion}
use Rattle.refusals.specs.Refusals.{plain_of, or_else, Verdict, fine, refused, refusal}
use Rattle.std.specs.Prelude.{Option, None, Ok, Err}
use Rattle.slots.specs.Slots.{part_of, cleared}
use Rattle.slots.proofs.Lengths.{length-cleared}
use Rattle.slots.proofs.Blocks.{split}
use Rattle.arm.specs.Model.{wild_of}
use Rattle.arm.specs.Topology.{actives_of, active_numbers}
use Rattle.arm.specs.declared.model.Model.{Model}
use Rattle.calls.specs.Plan.{plan_by, plan_of, Fit}
use Rattle.calls.specs.Position.{State, Result, visits_of, fresh_at, opening, advanced_by, closing, step_by, iterate, answer_by, refused_at, whole_of}
use Rattle.calls.specs.declared.plan.Plan.{Plan}
use Rattle.calls.specs.declared.position.Outcome.{Outcome}
use Rattle.calls.specs.declared.position.Outcome.TheVariants.{Accepted}
use Rattle.calls.specs.declared.position.Outcome.TheVariants as outcome
use Rattle.composites.specs.Plan.{matrix_place, place_of, room_of}
use Rattle.plain_entries.specs.Arm.{arm_of}
use Rattle.matrix_visits.specs.Kernel.{root_columns, tested, root_visit, visit_of}
use Rattle.matrix_visits.proofs.Stages.{stage}
use Rattle.matrix_visits.proofs.Filled.{Done, columns-done}
use Rattle.mass_matrix.specs.Checks.{inputs_verdict}
use Rattle.mass_matrix.specs.MassMatrix.{floats, rotation_of, mass_matrix}
use Rattle.mass_matrix.specs.declared.mass_matrix.Mode.{Mode}
use Rattle.mass_matrix.proofs.Ready.{plan-ready}
use Rattle.mass_matrix.proofs.Runs.{last, run-whole}
use Rattle.plain_matrix.specs.PlainMatrix.{entry_at, plain_entries, plain_matrix, plain_verdict, plain_call}
use Rattle.plain_matrix.proofs.Listed.{in-square}
use Rattle.plain_matrix.proofs.Roots.{root-entry, root-room}

module _ (f : ℕ → Float) (n at : ℕ) (s : List Float) (e : (i : ℕ) → i < n → get_or s (at + i) nan ≡ f i) where
  -- the part of a list that a table says
  part-is : part_of s at n ≡ tab f n
  unfolding part_of
  part-is = ext_get_or nan _ _ (length-tab _ n ∙ sym (length-tab f n)) (λ i h. let g = rw (length-tab (λ i. get_or s (at + i) nan) n) at h in get_or-tab _ nan n i g ∙ e i g ∙ sym (get_or-tab f nan n i g))

  taken_is : at + n ≤ length s → take n (drop at s) ≡ tab f n
  taken_is h =
      let l = length-take-le n (drop at s) (omega (arith, length-drop at s)) in
      ext_get_or nan _ _ (l ∙ sym (length-tab f n)) (λ i g. let g' = rw l at g in get_or-take n (drop at s) i nan g' ∙ get_or-drop at s i nan ∙ e i g' ∙ sym (get_or-tab f nan n i g'))

-- ---- one model and one input, whose checks have passed

module _ (p : Plan) (r : Quaternion) (m : Model) (q ws : List Float) (room : room_of p ≤ length ws) (fit : Fit p m.parents m.kinds (active_numbers m.kinds)) (joints : m.n ≡ p.n) where
  -- the workspace after the root's columns
  abbrev full : List Float
  full = root_columns p r (stage p r m q (last p r m q) ws)

  all_done : Done p r m q ws room fit joints (actives_of m.kinds p.n) (stage p r m q (last p r m q) ws)
  all_done =
      let e : p.side - p.lead ≡ actives_of m.kinds p.n = omega (arith, fit.sided) in
      rw e (columns-done p r m q ws room fit joints (actives_of m.kinds p.n) (omega arith))

  entry-at : (t : ℕ) → t < p.side * p.side → get_or full (matrix_place p.n + t) nan ≡ entry_at (arm_of m q) p.lead r m.kinds (t % p.side) (t / p.side)
  entry-at t h =
      let i = in-square p.side t h in
      let there : matrix_place p.n + t ≡ place_of p (t % p.side) (t / p.side) = omega (arith, div-add-mod' t p.side) in
      ap (λ (x : ℕ). get_or full x nan) there ∙ root-entry p r m q fit joints (stage p r m q (last p r m q) ws) all_done.0 all_done.1 (t % p.side) (t / p.side) i.0 i.1

  -- the matrix that waits, and the one that is tested
  waits : part_of full (matrix_place p.n) (p.side * p.side) ≡ plain_entries (arm_of m q) p r m.kinds
  unfolding plain_entries
  waits = part-is _ (p.side * p.side) (matrix_place p.n) full entry-at

  tests : take (p.side * p.side) (drop (matrix_place p.n) full) ≡ plain_entries (arm_of m q) p r m.kinds
  unfolding plain_entries
  tests = taken_is _ (p.side * p.side) (matrix_place p.n) full entry-at (root-room p r m q fit joints (stage p r m q (last p r m q) ws) all_done.0 all_done.1)

  -- what the root's visit answers, and what the output is then
  pub answers : (out : List Float) → length out ≡ p.side * p.side → (s : Outcome × List Float) → s ≡ root_visit p r (stage p r m q (last p r m q) ws)
      → ◌≡◌ {A = Outcome × List Float} (s.0, (closing (matrix_place p.n) s.0 s.1 out).1)
      (cond (all_finite (plain_entries (arm_of m q) p r m.kinds)) (Accepted, plain_entries (arm_of m q) p r m.kinds) (outcome.Refused (refusal 37 None), out))
  unfolding root_visit tested closing
  answers out l s e = rw (e, tests) (go (all_finite (plain_entries (arm_of m q) p r m.kinds)))
    where
      go : (b : Bool) → ◌≡◌ {A = Outcome × List Float}
          (cond b Accepted (outcome.Refused (refusal 37 None)), (closing (matrix_place p.n) (cond b Accepted (outcome.Refused (refusal 37 None))) full out).1)
          (cond b (Accepted, plain_entries (arm_of m q) p r m.kinds) (outcome.Refused (refusal 37 None), out))
      go true = rw (l, waits)
      go false = refl

-- ---- the call

-- the outcome and the output
abbrev pub seen : Result → Outcome × List Float
seen x = (x.0.outcome, x.2)

abbrev shown : State → Outcome × List Float
shown s = (s.0.outcome, s.2)

module _ (mode : Mode) (m : Model) (q ws out : List Float) where
  abbrev plan : Plan
  plan = plan_of (floats mode) m.n m.kinds

  -- the whole count of visits is the root's after all others
  counted : visits_of true m.n (actives_of m.kinds m.n) ≡ suc (last plan (rotation_of mode) m q)
  unfolding visits_of plan_by
  counted = omega arith

  joints : m.n ≡ plan.n
  unfolding plan_by
  joints = refl

  abbrev verdict : Verdict
  verdict = inputs_verdict (floats mode) (rotation_of mode) m.n m.parents m.kinds q (length ws) (length out)

  abbrev first : State
  first = (opening (fresh_at true (floats mode) m.n (actives_of m.kinds m.n)), cleared ws, out)

  -- where the checks pass
  passed-same : verdict ≡ fine → seen (whole_of (mass_matrix mode m q) ws out) ≡ plain_matrix mode m q out
  unfolding whole_of mass_matrix plain_matrix answer_by advanced_by
  passed-same v =
      let ready = plan-ready (floats mode) (rotation_of mode) m.n m.parents m.kinds q (length ws) (length out) v (active_numbers m.kinds) (actives_of m.kinds m.n) plan refl refl refl in
      rw v
      (ap (λ (k : ℕ). shown (iterate (step_by (visit_of plan (rotation_of mode) m q) (matrix_place plan.n)) k (first))) counted
      ∙ ap shown (run-whole plan (rotation_of mode) m q (matrix_place plan.n) true (floats mode) m.n (actives_of m.kinds m.n) (cleared ws) out)
      ∙ answers plan (rotation_of mode) m q (cleared ws) (omega (arith, length-cleared ws, ready.room.room)) ready.fit joints out ready.output
      (root_visit plan (rotation_of mode) (stage plan (rotation_of mode) m q (last plan (rotation_of mode) m q) (cleared ws))) refl)

  refused-same : (number : ℕ) (i : Option ℕ) → verdict ≡ refused number i → seen (whole_of (mass_matrix mode m q) ws out) ≡ (outcome.Refused (refusal number i), out)
  unfolding whole_of mass_matrix refused_at
  refused-same number i e = rw e

  -- ---- with the fast engine's workspace

  abbrev roomy : ℕ
  roomy = matrix_place m.n + plan.side * plan.side

  -- its checks are then the plain one's
  verdict-same : roomy ≤ length ws → verdict ≡ plain_verdict (floats mode) (rotation_of mode) m.n m.parents m.kinds q (length out)
  unfolding inputs_verdict plain_verdict plain_of or_else
  verdict-same h = rw (le-ltb (length ws) roomy h)

  -- EQUAL: with a workspace of the fast engine's size both give equal bits or the same refusal
  pub equal : roomy ≤ length ws → seen (whole_of (mass_matrix mode m q) ws out) ≡ plain_call mode m q out
  unfolding plain_call
  equal h = go verdict refl
    where
      go : (v : Verdict) → verdict ≡ v → seen (whole_of (mass_matrix mode m q) ws out) ≡ plain_call mode m q out
      go (Ok u) e = passed-same e ∙ rw (sym (verdict-same h) ∙ e)
      go (Err r) e = refused-same r.number r.place e ∙ rw (sym (verdict-same h) ∙ e)

  -- ---- and with a shorter one

  -- 9 in both
  wild-same : wild_of m.n m.parents m.kinds ≡ true → seen (whole_of (mass_matrix mode m q) ws out) ≡ plain_call mode m q out
  unfolding inputs_verdict plain_verdict plain_call plain_of or_else
  wild-same e = refused-same 9 None (rw e) ∙ rw e

  -- or 10 in the fast one
  short : length ws < roomy → wild_of m.n m.parents m.kinds ≡ false → seen (whole_of (mass_matrix mode m q) ws out) ≡ (outcome.Refused (refusal 10 None), out)
  unfolding inputs_verdict plain_of or_else
  short h e = refused-same 10 None (rw (e, lt-ltb (length ws) roomy h))

  -- THE SAME, 10 EXCEPTED: whatever the workspace
  pub same-but-10 : (seen (whole_of (mass_matrix mode m q) ws out) ≡ (outcome.Refused (refusal 10 None), out) → ⊥) → seen (whole_of (mass_matrix mode m q) ws out) ≡ plain_call mode m q out
  same-but-10 f = ⊎_elim (λ h. go h (wild_of m.n m.parents m.kinds) refl) equal (split (length ws) roomy)
    where
      go : length ws < roomy → (b : Bool) → wild_of m.n m.parents m.kinds ≡ b → seen (whole_of (mass_matrix mode m q) ws out) ≡ plain_call mode m q out
      go h true e = wild-same e
      go h false e = absurd (f (short h e))
