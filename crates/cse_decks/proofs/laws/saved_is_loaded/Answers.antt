use Rattle.cse_decks.proofs.SavedLaws.{loads_what_was_saved}
use Rattle.cse_decks.proofs.laws.saved_is_loaded.Goals as goal

pub returns : goal.returns
returns c = loads_what_was_saved
