use Rattle.std.proofs.Common.{rules}
use Rattle.cse_decks.proofs.StoreLaws.{number_fits}
use Rattle.cse_decks.proofs.store.Store.set_num.Goals as goal

pub returns-clause-fits : goal.returns-clause-fits
returns-clause-fits c = λ x h. number_fits x c.args.self.now _ c.args.g c.args.value c.requires (search rules) h
