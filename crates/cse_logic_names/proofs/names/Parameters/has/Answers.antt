use Rattle.std.proofs.Common.{◌∙◌, sym, ap, is_some}
use Rattle.std.specs.List.{list_any}
use Rattle.std.specs.Str.{bytes_eq}
use Rattle.std.proofs.lemmas.Map.Made.{is_some-lookup}
use Rattle.cse_dict.proofs.PlaceLaws.{is_some-copied}
use Rattle.cse_logic_names.proofs.names.Parameters.has.Goals as goal

pub returns : goal.returns
returns c =
    c.is_some.ensures ∙ sym (is_some-copied c.get.result) ∙ ap is_some c.get.ensures
    ∙ is_some-lookup (bytes_eq c.args.kept.now) c.self.inside.table
    ∙ ap (list_any (bytes_eq c.args.kept.now)) c.self.view_is
