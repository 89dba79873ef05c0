use Rattle.std.proofs.Common.{◌∙◌, ap, [], ◌∷◌, ◌++◌}
use Rattle.std.specs.List.{list_any}
use Rattle.std.specs.Map.{keys_of}
use Rattle.std.specs.Str.{bytes_eq}
use Rattle.std.proofs.lemmas.List.{map_push}
use Rattle.std.proofs.lemmas.Map.Made.{is_some-lookup}
use Rattle.cse_lemmas.proofs.Options.{none_from_is_some}
use Rattle.cse_logic_names.proofs.names.Parameters.add.Goals as goal

pub push-requires : goal.push-requires
push-requires c =
    let key = c.args.kept.items in
    none_from_is_some _ (is_some-lookup (bytes_eq key) c.self.inside.table ∙ ap (list_any (bytes_eq key)) c.self.view_is ∙ c.requires)

pub returns : goal.returns
returns c =
    ap keys_of c.in_ok-push.ensures.added
    ∙ map_push (λ e. e.0) c.self.inside.table (c.args.kept.items, tt)
    ∙ ap (λ ps. ps ++ c.args.kept.items ∷ []) c.self.view_is
