use Rattle.cse_decks.proofs.DeckTextLaws.{loads_deck_texts}
use Rattle.cse_decks.proofs.laws.deck_texts.Goals as goal

pub returns : goal.returns
returns c = loads_deck_texts
