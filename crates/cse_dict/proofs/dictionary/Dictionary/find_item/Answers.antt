use Rattle.std.proofs.Common.{◌∙◌, ap, map}
use Rattle.cse_dict.specs.Dictionary.{number_named, item_names}
use Rattle.cse_dict.proofs.PlaceLaws.{number_named-places, number_named-there}
use Rattle.cse_dict.proofs.dictionary.Dictionary.find_item.Goals as goal

pub returns-clause-item : goal.returns-clause-item
returns-clause-item c =
    number_named-places c.args.name.now (map (λ x. x.name) c.self.inside.items.items) c.self.inside.item_places c.find.result c.find.ensures c.self.invariant.item_places_are
    ∙ ap (λ d. number_named c.args.name.now (item_names d)) c.self.view_is

pub returns-clause-there : goal.returns-clause-there
returns-clause-there c =
    number_named-there (λ x. x.name) c.args.name.now c.args.self.now.items c.find.result
    (number_named-places c.args.name.now (map (λ x. x.name) c.self.inside.items.items) c.self.inside.item_places c.find.result c.find.ensures c.self.invariant.item_places_are
    ∙ ap (λ d. number_named c.args.name.now (item_names d)) c.self.view_is)
