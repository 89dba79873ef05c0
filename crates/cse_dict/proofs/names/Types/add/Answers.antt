use Rattle.std.proofs.Common.{◌∙◌, sym, ap, not, map}
use Rattle.std.specs.Str.{bytes_eq}
use Rattle.cse_dict.specs.Names.{is_among, with_name}
use Rattle.cse_dict.proofs.NameLaws.{list_any-map, insert-map}
use Rattle.cse_dict.proofs.names.Types.add.Goals as goal

pub returns-clause-is_new : goal.returns-clause-is_new
returns-clause-is_new c =
    c.in_ok-insert.ensures.added
    ∙ ap not (sym (list_any-map (λ name. name.items) (bytes_eq c.args.name.items) c.self.inside.set.keys) ∙ ap (λ names. is_among names c.args.name.items) c.self.view_is)

pub returns-clause-types : goal.returns-clause-types
returns-clause-types c =
    ap (map (λ name. name.items)) c.in_ok-insert.ensures.keys
    ∙ insert-map (λ name. name.items) c.self.inside.set.keys c.args.name
    ∙ ap (λ names. with_name names c.args.name.items) c.self.view_is
