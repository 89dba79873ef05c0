use Rattle.std.proofs.Common.{◌∙◌, ap}
use Rattle.std.specs.Map.{lookup}
use Rattle.std.specs.Str.{bytes_eq}
use Rattle.cse_logic_names.proofs.NameLaws.{gone}
use Rattle.cse_logic_names.proofs.names.Names.add.Goals as goal

pub push-requires : goal.push-requires
push-requires c = ap (lookup (bytes_eq c.args.kept.items)) c.self.view_is ∙ gone _ c.requires
