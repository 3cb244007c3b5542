use mathlib.Core.Path.{sym, ◌∙◌}
use Rattle.std.proofs.lemmas.Result.{err_from_is_err_and}
use Rattle.standing.proofs.Verdicts.{passed, few, call-refused, fitting, call-fine}
use Rattle.standing.proofs.stands.Goals as goal

pub number_at-a-requires : goal.number_at-a-requires
number_at-a-requires c = (c.active_numbers-numbers.ensures, (passed _ _ _ _ _ (sym c.judged.ensures ∙ c.in_ok-judged.was)).tree.few)

pub planned-p-requires : goal.planned-p-requires
planned-p-requires c = few _ _ _ _ _ (sym c.judged.ensures ∙ c.in_ok-judged.was) _ c.number_at-a.ensures

pub composites-composites-requires : goal.composites-composites-requires
composites-composites-requires c = (passed _ _ _ _ _ (sym c.judged.ensures ∙ c.in_ok-judged.was)).tree

pub put_marks-requires : goal.put_marks-requires
put_marks-requires c =
    let t = c.args.joints.now in
    fitting c.args.floating t.n t.parents.now t.kinds.now c.args.changes.now c.args.marks.now
    c.judged.ensures c.in_ok-judged.was _ _ c.number_at-a.ensures c.planned-p.ensures.0 _ c.composites-composites.ensures _ c.active_numbers-numbers.ensures

pub returns-in_err-judged : goal.returns-in_err-judged
returns-in_err-judged c =
    let t = c.args.joints.now in
    let p = err_from_is_err_and c.from_residual.result c.from_residual.ensures.1 in
    rw (p.1, p.2)
    (call-refused c.args.floating t.n t.parents.now t.kinds.now c.args.changes.now c.args.marks.now
    c.judged.ensures _ c.in_err-judged.was)

pub returns : goal.returns
returns c =
    let t = c.args.joints.now in
    call-fine c.args.floating t.n t.parents.now t.kinds.now c.args.changes.now c.args.marks.now
    c.judged.ensures c.in_ok-judged.was _ _ c.number_at-a.ensures c.planned-p.ensures.0 _ c.composites-composites.ensures c.put_marks.ensures
