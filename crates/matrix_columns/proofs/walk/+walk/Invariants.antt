-- A parent link comes before its joint.
use Rattle.matrix_columns.proofs.walk.+walk.Given as goal

abbrev pub decreases-walk : goal.decreases-walk
decreases-walk l = l.j
