-- A parent link comes before its joint.
use Rattle.plain_entries.proofs.entries.+up_to.Given as goal

abbrev pub decreases-up_to : goal.decreases-up_to
decreases-up_to l = l.j
