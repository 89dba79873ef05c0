use Rattle.std.proofs.Common.{◌∙◌, ap, map}
use Rattle.cse_dict.specs.Dictionary.{number_named, set_names}
use Rattle.cse_dict.proofs.PlaceLaws.{number_named-places, number_named-there}
use Rattle.cse_dict.proofs.dictionary.Dictionary.find_set.Goals as goal

pub returns-clause-set : goal.returns-clause-set
returns-clause-set c =
    number_named-places c.args.name.now (map (λ x. x.name) c.self.inside.sets.items) c.self.inside.set_places c.find.result c.find.ensures c.self.invariant.set_places_are
    ∙ ap (λ d. number_named c.args.name.now (set_names d)) c.self.view_is

pub returns-clause-there : goal.returns-clause-there
returns-clause-there c =
    number_named-there (λ x. x.name) c.args.name.now c.args.self.now.sets c.find.result
    (number_named-places c.args.name.now (map (λ x. x.name) c.self.inside.sets.items) c.self.inside.set_places c.find.result c.find.ensures c.self.invariant.set_places_are
    ∙ ap (λ d. number_named c.args.name.now (set_names d)) c.self.view_is)
