use Rattle.std.proofs.Common.{rules}
use Rattle.cse_decks.proofs.StoreLaws.{cell_fits}
use Rattle.cse_decks.proofs.store.Store.set_cell.Goals as goal

pub returns-clause-fits : goal.returns-clause-fits
returns-clause-fits c = λ x h. cell_fits x c.args.self.now _ c.args.array c.args.place c.args.value (search rules) h
