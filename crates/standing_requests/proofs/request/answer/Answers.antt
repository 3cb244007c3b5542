-- `request::answer` meets its contract. The marks are lent as false, and what comes back is written.
use mathlib.Core.Path.{sym}
use lib.Seq.{length-take-le}
use Rattle.standing_requests.proofs.request.Laws.{fits, first-false, back_fits, given_back}
use borrow.Author.Rules.{rules}
use Rattle.standing_requests.proofs.request.answer.Goals as goal

pub slice_bounds-stands-end : goal.slice_bounds-stands-end
slice_bounds-stands-end c =
    sym (length-take-le _ _ (fits c.mark_buffer-marks.ensures c.marks_room-count.ensures.1))

pub slice_bounds-marks-end-2 : goal.slice_bounds-marks-end-2
slice_bounds-marks-end-2 c =
    back_fits c.mark_buffer-marks.ensures c.marks_room-count.ensures.1 c.stands-v.new.marks c.stands-v.auto.marks

pub slice_bounds-put_stands-end : goal.slice_bounds-put_stands-end
slice_bounds-put_stands-end c = sym (length-take-le _ _ (back_fits c.mark_buffer-marks.ensures c.marks_room-count.ensures.1 c.stands-v.new.marks c.stands-v.auto.marks))

pub put_stands-requires : goal.put_stands-requires
put_stands-requires c =
    (rw (length-take-le _ _ (back_fits c.mark_buffer-marks.ensures c.marks_room-count.ensures.1 c.stands-v.new.marks c.stands-v.auto.marks)) c.marks_room-count.ensures.1, search rules)

pub returns : goal.returns
returns c =
    let e = c.mark_buffer-marks.ensures in
    let h = c.marks_room-count.ensures.1 in (
      c.put_stands.ensures.0,
      c.put_stands.ensures.1,
      rw (← c.marks_room-count.ensures.0, ← first-false e h, ← c.stands-v.ensures) (rw (given_back e h _ c.stands-v.auto.marks) at c.put_stands.ensures.2),
    )
