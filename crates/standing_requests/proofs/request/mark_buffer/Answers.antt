-- `request::mark_buffer` meets its contract.
use Rattle.standing_requests.proofs.request.Laws.{all-false}
use Rattle.standing_requests.proofs.request.mark_buffer.Goals as goal

pub returns : goal.returns
returns c = all-false 1444
