use Rattle.std.proofs.Common.{ap, ◌∙◌}
use Rattle.cse_decks.specs.declared.error.DeckError.{DeckError}
use Rattle.cse_command_parts.specs.declared.outcome.Stop.TheVariants.{Refused}
use Rattle.cse_command_parts.specs.Ending.{fault_at}
use Rattle.cse_commands.proofs.run_image.store_said.Goals as goal

pub returns-in-Err-clause-every_deck_text : goal.returns-in-Err-clause-every_deck_text
returns-in-Err-clause-every_deck_text g c = λ s says. ap Refused (c.of_decks.ensures ∙ ap (λ (e : DeckError). fault_at e.number e.line) (c.in-Err.ensures.every_deck_text s says))

pub returns-in-Err-clause-refused : goal.returns-in-Err-clause-refused
returns-in-Err-clause-refused g c = record { error = c.in-Err.error; tells = ap Refused c.of_decks.ensures; first = c.in-Err.ensures.first_fault }
