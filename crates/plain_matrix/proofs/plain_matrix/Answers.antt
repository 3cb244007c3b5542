use mathlib.Core.Path.{sym, ◌∙◌}
use Rattle.plain_matrix.proofs.Verdicts.{passed, few}
use Rattle.plain_matrix.proofs.Called.{call-refused, values, fits, takes, call-accepted, call-37}
use Rattle.plain_matrix.proofs.plain_matrix.Goals as goal

pub number_at-a-requires : goal.number_at-a-requires
number_at-a-requires c = (c.active_numbers-numbers.ensures, (passed _ _ _ _ _ _ _ (sym c.judged.ensures ∙ c.in-Ok.is)).tree.few)

pub planned-p-requires : goal.planned-p-requires
planned-p-requires c = few _ _ _ _ _ _ _ (sym c.judged.ensures ∙ c.in-Ok.is) _ c.number_at-a.ensures

pub invariant_of-arm : goal.invariant_of-arm
invariant_of-arm c =
    record {
      good = passed _ _ _ _ _ _ _ (sym c.judged.ensures ∙ c.in-Ok.is);
      numbered = c.active_numbers-numbers.ensures;
      counted = values c.args.mode c.args.model.now c.args.q.now c.args.out.now c.judged.ensures c.in-Ok.is c.floats.ensures c.number_at-a.ensures c.planned-p.ensures.0 c.rotation-r.ensures;
    }

pub entries_finite-finite-requires : goal.entries_finite-finite-requires
entries_finite-finite-requires c = fits c.args.mode c.args.model.now c.args.q.now c.args.out.now c.judged.ensures c.in-Ok.is c.floats.ensures c.number_at-a.ensures c.planned-p.ensures.0 c.rotation-r.ensures

pub put_entries-requires : goal.put_entries-requires
put_entries-requires c = takes c.args.mode c.args.model.now c.args.q.now c.args.out.now c.judged.ensures c.in-Ok.is c.floats.ensures c.number_at-a.ensures c.planned-p.ensures.0 c.rotation-r.ensures

pub returns-then-finite : goal.returns-then-finite
returns-then-finite c =
    call-accepted c.args.mode c.args.model.now c.args.q.now c.args.out.now c.judged.ensures c.in-Ok.is c.floats.ensures c.number_at-a.ensures c.planned-p.ensures.0 c.rotation-r.ensures c.entries_finite-finite.ensures c.if-finite.true c.put_entries.ensures

pub returns-in-Err : goal.returns-in-Err
returns-in-Err c = call-refused c.args.mode c.args.model.now c.args.q.now c.args.out.now c.judged.ensures _ c.in-Err.is

pub returns-else-finite : goal.returns-else-finite
returns-else-finite c =
    rw c.plain.ensures
    (call-37 c.args.mode c.args.model.now c.args.q.now c.args.out.now c.judged.ensures c.in-Ok.is c.floats.ensures c.number_at-a.ensures c.planned-p.ensures.0 c.rotation-r.ensures c.entries_finite-finite.ensures c.if-finite.false)
