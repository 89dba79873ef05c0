use Rattle.std.proofs.Common.{◌∙◌}
use Rattle.cse_logic_faults.proofs.DeckLaws.{picks_made}
use Rattle.cse_logic_faults.proofs.set.are_picked.Goals as goal

pub returns : goal.returns
returns c = c.are_picks.ensures ∙ picks_made c.args.scope.now c.args.directions.now
