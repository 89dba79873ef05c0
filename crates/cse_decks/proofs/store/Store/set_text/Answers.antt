use Rattle.std.proofs.Common.{rules}
use Rattle.cse_decks.proofs.StoreLaws.{text_fits}
use Rattle.cse_decks.proofs.store.Store.set_text.Goals as goal

pub returns-clause-fits : goal.returns-clause-fits
returns-clause-fits c = λ x h. text_fits x c.args.self.now _ c.args.g c.args.text.now.items c.requires (search rules) h
