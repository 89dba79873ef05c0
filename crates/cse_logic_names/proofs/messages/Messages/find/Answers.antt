use Rattle.std.proofs.Common.{◌∙◌, sym, ap, map}
use Rattle.std.specs.Prelude.{position, nat_eq}
use Rattle.std.specs.String.{string_bytes}
use Rattle.cse_logic_names.specs.MessageFile.{MessageText}
use Rattle.cse_logic_names.proofs.MessageLaws.{numbers_told}
use Rattle.cse_logic_names.proofs.messages.Messages.find.Goals as goal

pub returns : goal.returns
returns c =
    c.place_of.ensures
    ∙ ap (position (nat_eq c.args.number)) (sym (numbers_told string_bytes c.self.inside.table) ∙ ap (map (λ (m : MessageText). m.number)) c.self.view_is)
