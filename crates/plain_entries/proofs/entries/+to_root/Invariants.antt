-- A parent link comes before its joint.
use Rattle.plain_entries.proofs.entries.+to_root.Given as goal

abbrev pub decreases-to_root : goal.decreases-to_root
decreases-to_root l = l.j
