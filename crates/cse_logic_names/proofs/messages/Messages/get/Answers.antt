use Rattle.std.proofs.Common.{◌∙◌, sym, ap, Some}
use Rattle.std.specs.Prelude.{nat_eq, find, option_map}
use Rattle.std.specs.String.{string_bytes}
use Rattle.cse_logic_names.specs.MessageFile.{MessageText}
use Rattle.cse_logic_names.proofs.MessageLaws.{made, find_told}
use Rattle.cse_logic_names.proofs.messages.Messages.get.Goals as goal

pub returns-in-None : goal.returns-in-None
returns-in-None c =
    let n = c.args.number in
    ap (option_map (λ x. made n (string_bytes x))) c.in-None.ensures
    ∙ sym (find_told string_bytes n c.self.inside.table)
    ∙ ap (find (λ (m : MessageText). nat_eq n m.number)) c.self.view_is

pub returns-in-Some : goal.returns-in-Some
returns-in-Some c =
    let n = c.args.number in
    ap (λ t. Some (made n t)) c.as_str.ensures.value
    ∙ ap (option_map (λ x. made n (string_bytes x))) c.in-Some.ensures
    ∙ sym (find_told string_bytes n c.self.inside.table)
    ∙ ap (find (λ (m : MessageText). nat_eq n m.number)) c.self.view_is
