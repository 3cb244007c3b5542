-- What the checks of the call have shown, and the marks then. Assumes nothing.
use mathlib.Core.Bool.{Bool, true, false, cond, ◌||◌}
use mathlib.Core.List.{List}
use mathlib.Core.Path.{◌≡◌, refl, sym, ap, ap₂, ◌∙◌}
use Prim.Native.Nat.{ℕ, suc, ◌-◌, ◌*◌, ◌/◌, ◌%◌, ◌≤◌, ◌<◌}
use native.Mathlib.Omega.{arith}
use borrow.Author.Tests.{ltb-false}
use lib.Dec.{ltb}
use lib.ListN.{length}
use Rattle.numbers.specs.Table.{tab}
use Rattle.numbers.proofs.Tables.{length-tab, get_or-tab}
use Rattle.std.specs.Prelude.{Err}
use Rattle.refusals.specs.Refusals.{Verdict, fine}
use Rattle.refusals.specs.declared.Refusal.{Refusal}
use Rattle.refusals.proofs.Flags.{neither}
use Rattle.refusals.proofs.Verdicts.{plain-fine, both-fine}
use Rattle.arm.specs.Model.{wild_of, Good}
use Rattle.arm.specs.Topology.{actives_of, active_numbers}
use Rattle.arm.proofs.topology.Counts.{actives-le}
use Rattle.calls.specs.Plan.{plan_by, plan_of, Fit}
use Rattle.calls.specs.declared.plan.Plan.{Plan}
use Rattle.calls.proofs.Passed.{tame, as_wanted}
use Rattle.calls.proofs.Fits.{fits}
use Rattle.plain_matrix.specs.PlainMatrix.{joint_with}
use Rattle.plain_matrix.proofs.Listed.{in-square}
use Rattle.plain_matrix.proofs.Roots.{with_number}
use Rattle.standing.specs.Standing.{Changes, another, composite_touched, stands_between, joint_mark, mark_at, mark_number, marks_of, stands_verdict, stands_call, stands_by}
use Rattle.standing.proofs.Flags.{as-table}

module _ (floating : Bool) (n : ℕ) (parents kinds : List ℕ) where
  abbrev plan : Plan
  plan = plan_of floating n kinds

  module _ (room : ℕ) where
    module _ (v : stands_verdict floating n parents kinds room ≡ fine) where
      pub passed : Good n parents kinds
      unfolding stands_verdict
      passed = tame n parents kinds (plain-fine 9 (wild_of n parents kinds) (both-fine _ _ v).0)

      pub few : (a : ℕ) → a ≡ actives_of kinds n → a ≤ 32
      few a e = omega (arith, e, actives-le kinds n, passed.tree.few)

      pub sized : room ≡ plan.side * plan.side
      unfolding stands_verdict
      sized = as_wanted 17 room (plan.side * plan.side) (both-fine _ _ v).1

-- ---- the marks rest on the rule for joints of the arm alone

module _ (p : Plan) (parents kinds numbers : List ℕ) (fit : Fit p parents kinds numbers) (f g : ℕ → ℕ → Bool) (same : (J I : ℕ) → J < p.n → I < p.n → f J I ≡ g J I) where
  joint-same : (row column : ℕ) → row < actives_of kinds p.n → column < actives_of kinds p.n → joint_mark p.n kinds f row column ≡ joint_mark p.n kinds g row column
  unfolding joint_mark
  joint-same row column h k =
      let i = (with_number kinds p.n row h).joint in
      let j = (with_number kinds p.n column k).joint in
      ap₂ (cond (ltb column row)) (same (joint_with kinds p.n row) (joint_with kinds p.n column) i j) (same (joint_with kinds p.n column) (joint_with kinds p.n row) j i)

  mark-same : (row column : ℕ) → row < p.side → column < p.side → mark_at p kinds f row column ≡ mark_at p kinds g row column
  unfolding mark_at
  mark-same row column h k = go (ltb row p.lead || ltb column p.lead) refl
    where
      go : (b : Bool) → (ltb row p.lead || ltb column p.lead) ≡ b
          → cond b false (joint_mark p.n kinds f (row - p.lead) (column - p.lead)) ≡ cond b false (joint_mark p.n kinds g (row - p.lead) (column - p.lead))
      go true e = refl
      go false e =
          let n = neither (ltb row p.lead) (ltb column p.lead) e in
          let a = ltb-false row p.lead n.0 in
          let b = ltb-false column p.lead n.1 in
          joint-same (row - p.lead) (column - p.lead) (omega (arith, fit.sided)) (omega (arith, fit.sided))

  marks-same : marks_of p kinds f ≡ marks_of p kinds g
  unfolding marks_of
  marks-same =
      as-table _ (p.side * p.side) (tab (mark_number p kinds f) (p.side * p.side)) (length-tab _ (p.side * p.side))
      (λ t h. let i = in-square p.side t h in get_or-tab _ false (p.side * p.side) t h ∙ mark-same (t % p.side) (t / p.side) i.0 i.1)

-- ---- the call

module _ (floating : Bool) (n : ℕ) (parents kinds : List ℕ) (c : Changes) (marks : List Bool) {v : Verdict} (ev : v ≡ stands_verdict floating n parents kinds (length marks)) where
  pub call-refused : (e : Refusal) → v ≡ Err e → ◌≡◌ {A = Verdict × List Bool} (Err e, marks) (stands_call floating n parents kinds c marks)
  unfolding stands_call
  call-refused e h = rw (sym ev ∙ h)

  module _ (e : v ≡ fine) (p : Plan) (a : ℕ) (ea : a ≡ actives_of kinds n) (ep : p ≡ plan_by floating n a) (composites : List Bool)
      (ec : composites ≡ tab (composite_touched n parents kinds c.links c.frames c.axes) 33) where
    good : Good n parents kinds
    good = passed floating n parents kinds (length marks) (sym ev ∙ e)

    is-plan : p ≡ plan_of floating n kinds
    is-plan = ep ∙ ap (plan_by floating n) ea

    pub fitting : (numbers : List ℕ) → numbers ≡ active_numbers kinds → Fit p parents kinds numbers × (length marks ≡ p.side * p.side)
    unfolding plan_by
    fitting numbers d = rw is-plan (fits floating n parents kinds good numbers d, sized floating n parents kinds (length marks) (sym ev ∙ e))

    rule-same : (J I : ℕ) → J < n → stands_by n parents kinds composites c.frames c.axes c.rotors J I ≡ stands_between n parents kinds c J I
    unfolding stands_by stands_between
    rule-same J I h = rw (ap (λ (s : List Bool). another s (suc J)) ec ∙ get_or-tab _ false 33 (suc J) (omega (arith, good.tree.few)))

    pub call-fine : {made : List Bool} → made ≡ marks_of p kinds (stands_by p.n parents kinds composites c.frames c.axes c.rotors)
        → ◌≡◌ {A = Verdict × List Bool} (fine, made) (stands_call floating n parents kinds c marks)
    unfolding stands_call plan_by
    call-fine d =
        rw (sym ev ∙ e, d, is-plan)
        (ap (λ (l : List Bool). (fine, l)) (marks-same (plan_of floating n kinds) parents kinds (active_numbers kinds) (fits floating n parents kinds good (active_numbers kinds) refl) _ _ (λ J I h g. rule-same J I h)))
