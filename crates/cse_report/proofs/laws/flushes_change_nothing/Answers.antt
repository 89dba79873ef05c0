use Rattle.cse_report.proofs.ListingLaws.{gives_the_listing}
use Rattle.cse_report.proofs.laws.flushes_change_nothing.Goals as goal

pub returns : goal.returns
returns c = gives_the_listing
