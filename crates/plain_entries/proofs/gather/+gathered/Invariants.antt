-- A child's link has a higher number than its parent's; at the same link fewer joints are left.
use Rattle.std.proofs.Common.{◌+◌, ◌-◌, ◌*◌}
use Rattle.plain_entries.proofs.gather.+gathered.Given as goal

abbrev pub decreases-gathered : goal.decreases-gathered
decreases-gathered l = (33 - l.l) * 64 + l.i
