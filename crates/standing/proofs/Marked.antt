-- A MARKED ENTRY KEEPS ITS BITS in the plain lists of two arms that are the same but for what was told (document 02, item 7). Assumes nothing.
use mathlib.Core.Bool.{Bool, true, false, cond, ◌||◌, true≢false}
use mathlib.Core.List.{List}
use mathlib.Core.Path.{◌≡◌, refl, sym, ap, ap₂, ◌∙◌}
use Prim.Native.Nat.{ℕ, zero, suc, ◌+◌, ◌-◌, ◌*◌, ◌/◌, ◌%◌, ◌≤◌, ◌<◌}
use native.Mathlib.Nat.{div-add-mod'}
use native.Mathlib.Omega.{arith}
use borrow.Author.Tests.{ltb-true, ltb-false}
use lib.Dec.{ltb}
use lib.ListN.{get_or}
use lib.Ieee.{Float, nan}
use Rattle.numbers.specs.declared.quaternion.Quaternion.{Quaternion}
use Rattle.refusals.proofs.Flags.{neither}
use Rattle.arm.specs.Joint.{is_fixed}
use Rattle.arm.specs.Model.{parent_of, kind_of, Tree}
use Rattle.arm.specs.Topology.{actives_of, Numbered}
use Rattle.calls.specs.declared.plan.Plan.{Plan}
use Rattle.plain_entries.specs.Arm.{Arm}
use Rattle.plain_entries.specs.Entries.{entry_between}
use Rattle.plain_entries.specs.Rests.{Carries}
use Rattle.plain_entries.proofs.Rests.{entry-rests, unrelated}
use Rattle.plain_matrix.specs.PlainMatrix.{joint_with, plain_entries}
use Rattle.plain_matrix.proofs.Listed.{in-square}
use Rattle.plain_matrix.proofs.Roots.{with_number, ordered}
use Rattle.plain_matrix.proofs.Stored.{list-here, list-there}
use Rattle.standing.specs.Tree.{carries}
use Rattle.standing.specs.Standing.{Changes, stands_between, joint_mark, mark_at, mark_number}
use Rattle.standing.specs.Kept.{Kept}
use Rattle.standing.proofs.Trees.{carries-is, carries-means}
use Rattle.standing.proofs.Covers.{carries_same, covers}

-- the same kinds number the joints alike
pub actives-same : (n : ℕ) (kinds kinds' : List ℕ) → ((j : ℕ) → j < n → kind_of kinds j ≡ kind_of kinds' j) → (j : ℕ) → j ≤ n → actives_of kinds j ≡ actives_of kinds' j
unfolding actives_of
actives-same n kinds kinds' e zero h = refl
actives-same n kinds kinds' e (suc j) h = ap₂ (λ (x k : ℕ). x + cond (is_fixed k) 0 1) (actives-same n kinds kinds' e j (omega arith)) (e j (omega arith))

module _ (n : ℕ) (parents kinds : List ℕ) (c : Changes) (t : Tree n parents) (a b : Arm) (k : Kept n parents kinds c a b) where
  abbrev parent : ℕ → ℕ
  parent = parent_of parents

  -- an arm's tree
  low : (d : Arm) → d.n ≡ n → ((j : ℕ) → j < n → d.parent j ≡ parent j) → (j : ℕ) → j < d.n → d.parent j ≤ j
  low d e f j h = let g : j < n = omega (arith, e) in omega (arith, f j g, t.below j g)

  -- the entry between two joints of which it is said to stand
  between-same : (J I : ℕ) → J < n → I < n → (kind_of kinds J ≡ 2 → ⊥) → (kind_of kinds I ≡ 2 → ⊥) → stands_between n parents kinds c J I ≡ true → entry_between a J I ≡ entry_between b J I
  between-same J I h i f g s = go (carries parent (suc I) (suc J)) refl
    where
      first : (j : ℕ) → j < n → a.parent j ≡ parent j
      first j d = (k.tree j d).0

      second : (j : ℕ) → j < n → b.parent j ≡ parent j
      second j d = (k.tree j d).1

      apart : (d : Arm) → d.n ≡ n → ((j : ℕ) → j < n → d.parent j ≡ parent j) → carries parent (suc I) (suc J) ≡ false → Carries d.n d.parent (suc I) (suc J) → ⊥
      apart d e p off r = true≢false (sym (carries-is n parent t.below (carries_same e p r)) ∙ off)

      go : (x : Bool) → carries parent (suc I) (suc J) ≡ x → entry_between a J I ≡ entry_between b J I
      go true e =
          let r = carries-means n parent t.below (suc I) (suc J) h e in
          entry-rests a b (low a k.first first) J I (omega (arith, k.first)) (carries_same (sym k.first) (λ j d. sym (first j (omega (arith, k.first)))) r)
          (covers n parents kinds c t J I h i f g s r a b k)
      go false e =
          unrelated a (low a k.first first) I J (omega (arith, k.first)) (apart a k.first first e)
          ∙ sym (unrelated b (low b k.second second) I J (omega (arith, k.second)) (apart b k.second second e))

  -- ---- in the two lists

  module _ (kinds' : List ℕ) (alike : (j : ℕ) → j < n → kind_of kinds j ≡ kind_of kinds' j) (p : Plan) (joints : p.n ≡ n) (sided : p.side ≡ p.lead + actives_of kinds n) (r r' : Quaternion) where
    abbrev one : List Float
    one = plain_entries a p r kinds

    abbrev other : List Float
    other = plain_entries b p r' kinds'

    sided-a : p.side ≡ p.lead + actives_of kinds p.n
    sided-a = rw joints sided

    sided-b : p.side ≡ p.lead + actives_of kinds' p.n
    sided-b = rw joints (sided ∙ ap (λ (x : ℕ). p.lead + x) (actives-same n kinds kinds' alike n (omega arith)))

    abbrev row : ℕ → ℕ
    row j = p.lead + actives_of kinds j

    row_same : (j : ℕ) → j < n → row j ≡ p.lead + actives_of kinds' j
    row_same j h = ap (λ (x : ℕ). p.lead + x) (actives-same n kinds kinds' alike j (omega arith))

    -- two active joints, I not above J in number: both of their places
    module _ (J I : ℕ) (h : J < n) (l : I ≤ J) (f : kind_of kinds J ≡ 2 → ⊥) (g : kind_of kinds I ≡ 2 → ⊥) (s : stands_between n parents kinds c J I ≡ true) where
      f' : kind_of kinds' J ≡ 2 → ⊥
      f' e = f (alike J h ∙ e)

      g' : kind_of kinds' I ≡ 2 → ⊥
      g' e = g (alike I (omega arith) ∙ e)

      -- a place of the one list and a place of the other that have this entry
      same_at : (x y : ℕ) → get_or one x nan ≡ entry_between a J I → get_or other y nan ≡ entry_between b J I → y ≡ x → get_or one x nan ≡ get_or other x nan
      same_at x y d e at = d ∙ between-same J I h (omega arith) f g s ∙ sym e ∙ ap (λ (z : ℕ). get_or other z nan) at

      abbrev entry : ℕ → ℕ → ℕ
      entry y z = y * p.side + z

      here-same : get_or one (entry (row J) (row I)) nan ≡ get_or other (entry (row J) (row I)) nan
      here-same =
          same_at _ _ (list-here a p r kinds (k.first ∙ sym joints) sided-a J I (omega (arith, k.first)) l f g)
          (list-here b p r' kinds' (k.second ∙ sym joints) sided-b J I (omega (arith, k.second)) l f' g') (ap₂ entry (sym (row_same J h)) (sym (row_same I (omega arith))))

      there-same : get_or one (entry (row I) (row J)) nan ≡ get_or other (entry (row I) (row J)) nan
      there-same =
          same_at _ _ (list-there a p r kinds (k.first ∙ sym joints) sided-a J I (omega (arith, k.first)) l f g)
          (list-there b p r' kinds' (k.second ∙ sym joints) sided-b J I (omega (arith, k.second)) l f' g') (ap₂ entry (sym (row_same I (omega arith))) (sym (row_same J h)))

    -- any place that is marked
    module _ (x : ℕ) (h : x < p.side * p.side) where
      abbrev at_row : ℕ
      at_row = x % p.side

      abbrev at-column : ℕ
      at-column = x / p.side

      pub marked-same : mark_number p kinds (stands_between n parents kinds c) x ≡ true → get_or one x nan ≡ get_or other x nan
      unfolding mark_at joint_mark
      marked-same m = go (ltb at_row p.lead || ltb at-column p.lead) refl m
        where
          place : x ≡ at-column * p.side + at_row
          place = omega (arith, div-add-mod' x p.side)

          here : ℕ
          here = joint_with kinds p.n (at_row - p.lead)

          there : ℕ
          there = joint_with kinds p.n (at-column - p.lead)

          Inside : Type 0
          Inside = Numbered kinds p.n (at_row - p.lead) here × Numbered kinds p.n (at-column - p.lead) there × (row here ≡ at_row) × (row there ≡ at-column)

          inside : (ltb at_row p.lead || ltb at-column p.lead) ≡ false → Inside
          inside e =
              let q = in-square p.side x h in
              let d = neither (ltb at_row p.lead) (ltb at-column p.lead) e in
              let u = ltb-false at_row p.lead d.0 in
              let v = ltb-false at-column p.lead d.1 in
              let one_number = with_number kinds p.n (at_row - p.lead) (omega (arith, sided-a, q.0)) in
              let two-number = with_number kinds p.n (at-column - p.lead) (omega (arith, sided-a, q.1)) in
              (one_number, two-number, omega (arith, one_number.number), omega (arith, two-number.number))

          turn : (b : Bool) → (b ≡ true → at-column - p.lead < at_row - p.lead) → (b ≡ false → at_row - p.lead ≤ at-column - p.lead) → Inside → here < n → there < n
              → cond b (stands_between n parents kinds c here there) (stands_between n parents kinds c there here) ≡ true
              → get_or one (row there * p.side + row here) nan ≡ get_or other (row there * p.side + row here) nan
          turn true lt ge i hn tn s = there-same here there hn (ordered kinds there here i.0.active (omega (arith, i.0.number, i.1.number, lt refl))) i.0.active i.1.active s
          turn false lt ge i hn tn s = here-same there here tn (ordered kinds here there i.1.active (omega (arith, i.0.number, i.1.number, ge refl))) i.1.active i.0.active s

          go : (b : Bool) → (ltb at_row p.lead || ltb at-column p.lead) ≡ b → cond b false (joint_mark p.n kinds (stands_between n parents kinds c) (at_row - p.lead) (at-column - p.lead)) ≡ true
              → get_or one x nan ≡ get_or other x nan
          go true e m = absurd (true≢false (sym m))
          go false e m =
              let i = inside e in
              let e-here : here < n = omega (arith, i.0.joint, joints) in
              let e-there : there < n = omega (arith, i.1.joint, joints) in
              ap (λ (y : ℕ). get_or one y nan) (place ∙ ap₂ (λ (y z : ℕ). y * p.side + z) (sym i.3) (sym i.2))
              ∙ turn (ltb (at-column - p.lead) (at_row - p.lead)) (ltb-true (at-column - p.lead) (at_row - p.lead)) (ltb-false (at-column - p.lead) (at_row - p.lead)) i e-here e-there m
              ∙ ap (λ (y : ℕ). get_or other y nan) (sym (place ∙ ap₂ (λ (y z : ℕ). y * p.side + z) (sym i.3) (sym i.2)))
