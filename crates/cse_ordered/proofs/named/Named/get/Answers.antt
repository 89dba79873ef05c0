use Rattle.std.proofs.Common.{◌∙◌, sym}
use Rattle.std.specs.Str.{bytes_eq}
use Rattle.cse_ordered.proofs.Laws.{lookup_value, lookup_nowhere}
use Rattle.cse_ordered.proofs.named.Named.get.Goals as goal

pub returns-in-Some : goal.returns-in-Some
returns-in-Some g c = sym (lookup_value (bytes_eq c.args.name.now) c.args.self.now c.in-Some.place c.value_at.result.now (sym c.place_of.ensures ∙ c.in-Some.is) c.value_at.ensures)

pub returns-in-None : goal.returns-in-None
returns-in-None g c = sym (lookup_nowhere (bytes_eq c.args.name.now) c.args.self.now (sym c.place_of.ensures ∙ c.in-None.is))
