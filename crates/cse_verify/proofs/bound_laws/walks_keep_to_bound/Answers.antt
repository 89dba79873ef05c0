use Rattle.cse_verify.proofs.FitLaws.{may_walk}
use Rattle.cse_verify.proofs.OpenLaws.{open_few}
use Rattle.cse_verify.proofs.BoundWalkLaws.{walk_falls, walk_goes_on, entry_rest, walked_within, walked_inside}
use Rattle.cse_verify.proofs.bound_laws.walks_keep_to_bound.Goals as goal

pub returns-clause-steps : goal.returns-clause-steps
returns-clause-steps g c = walked_within _ (may_walk _ c.tables-fits.ensures.fits c.requires.rules c.requires.smaller)

pub returns-clause-falls : goal.returns-clause-falls
returns-clause-falls g c = walk_falls _ (may_walk _ c.tables-fits.ensures.fits c.requires.rules c.requires.smaller)

pub returns-clause-begins : goal.returns-clause-begins
returns-clause-begins g c = entry_rest _ (may_walk _ c.tables-fits.ensures.fits c.requires.rules c.requires.smaller)

pub returns-clause-goes_on : goal.returns-clause-goes_on
returns-clause-goes_on g c = walk_goes_on _ (may_walk _ c.tables-fits.ensures.fits c.requires.rules c.requires.smaller)

pub returns-clause-inside : goal.returns-clause-inside
returns-clause-inside g c = walked_inside _ (may_walk _ c.tables-fits.ensures.fits c.requires.rules c.requires.smaller)

pub returns-clause-frames : goal.returns-clause-frames
returns-clause-frames g c = open_few _
