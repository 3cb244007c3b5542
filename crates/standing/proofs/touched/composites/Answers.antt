use Rattle.standing.specs.Standing.{composite_touched}
use Rattle.standing.proofs.Climbs.{both-gathered}
use Rattle.standing.proofs.touched.composites.Goals as goal

pub returns : goal.returns
unfolding composite_touched
returns c = both-gathered _ _ 33 _ _ c.flag_links.ensures c.flag_frames.ensures
