use Rattle.std.proofs.Common.{◌∙◌, sym, ap, is_some}
use Rattle.cse_dict.proofs.PlaceLaws.{is_some-copied}
use Rattle.cse_logic_names.specs.Scope.{has_global}
use Rattle.cse_logic_names.proofs.NameLaws.{has_key}
use Rattle.cse_logic_names.proofs.names.Globals.has.Goals as goal

pub returns : goal.returns
returns c =
    c.is_some.ensures ∙ sym (is_some-copied c.get.result) ∙ ap is_some c.get.ensures
    ∙ sym (has_key c.args.global c.self.inside.table)
    ∙ ap (λ gs. has_global gs c.args.global) c.self.view_is
