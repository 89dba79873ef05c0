use Rattle.std.proofs.Common.{◌∙◌, sym}
use Rattle.cse_ordered.proofs.Laws.{lookup_there, lookup_nowhere}
use Rattle.cse_ordered.proofs.keyed.Keyed.get.Goals as goal

pub returns-in-Some : goal.returns-in-Some
returns-in-Some g c = sym (lookup_there (g.K.PartialEq.eq c.args.key) c.args.self.now c.in-Some.place c.at.result.now (sym c.place_of.ensures ∙ c.in-Some.is) c.at.ensures)

pub returns-in-None : goal.returns-in-None
returns-in-None g c = sym (lookup_nowhere (g.K.PartialEq.eq c.args.key) c.args.self.now (sym c.place_of.ensures ∙ c.in-None.is))
