use Rattle.std.proofs.Common.{◌∙◌, ap, map}
use Rattle.cse_dict.specs.Dictionary.{number_named, record_names}
use Rattle.cse_dict.proofs.PlaceLaws.{number_named-places, number_named-there}
use Rattle.cse_dict.proofs.dictionary.Dictionary.find_record.Goals as goal

pub returns-clause-record : goal.returns-clause-record
returns-clause-record c =
    number_named-places c.args.name.now (map (λ x. x.name) c.self.inside.records.items) c.self.inside.record_places c.find.result c.find.ensures c.self.invariant.record_places_are
    ∙ ap (λ d. number_named c.args.name.now (record_names d)) c.self.view_is

pub returns-clause-there : goal.returns-clause-there
returns-clause-there c =
    number_named-there (λ x. x.name) c.args.name.now c.args.self.now.records c.find.result
    (number_named-places c.args.name.now (map (λ x. x.name) c.self.inside.records.items) c.self.inside.record_places c.find.result c.find.ensures c.self.invariant.record_places_are
    ∙ ap (λ d. number_named c.args.name.now (record_names d)) c.self.view_is)
