use Rattle.std.proofs.Common.{◌∙◌, ap, List}
use Rattle.std.specs.Prelude.{map}
use Rattle.cse_image_parts.specs.declared.entries.Array.{Array}
use Rattle.cse_image_parts.specs.Image.{Lists, array_lists}
use Rattle.cse_decks.proofs.DeckTextLaws.{is_store, loaded_holds, says_store}
use Rattle.cse_decks.proofs.FaultLaws.{tells_first_fault}
use Rattle.cse_decks.proofs.loading.load.Goals as goal

pub load_with-requires-clause-same : goal.load_with-requires-clause-same
load_with-requires-clause-same g c = ap (λ (l : List Array). map array_lists l) c.deref.ensures.value ∙ ap (λ (l : Lists). l.arrays) c.tables-tables.ensures.lists

pub returns-clause-deck_text : goal.returns-clause-deck_text
returns-clause-deck_text g c = says_store c.args.program.now c.args.text.now c.load_with.result c.tables-tables.ensures.fits c.load_with.ensures.exact

pub returns-clause-every_deck_text : goal.returns-clause-every_deck_text
returns-clause-every_deck_text g c = λ s says. is_store c.args.program.now c.args.text.now s c.load_with.result c.tables-tables.ensures.fits c.load_with.ensures.exact says

pub load_with-requires-clause-held : goal.load_with-requires-clause-held
load_with-requires-clause-held g c = λ s e. loaded_holds c.args.program.now c.args.text.now s c.tables-tables.ensures.fits e

pub returns-clause-first_fault : goal.returns-clause-first_fault
returns-clause-first_fault g c = tells_first_fault c.args.program.now c.args.text.now c.load_with.result c.tables-tables.ensures.fits c.load_with.ensures.exact
