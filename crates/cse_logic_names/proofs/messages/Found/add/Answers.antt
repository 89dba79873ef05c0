use Rattle.std.proofs.Common.{◌≡◌, ◌∙◌, ℕ, [], ◌∷◌, ◌++◌, true, false, is_some, sym, ap}
use Rattle.std.specs.Prelude.{nat_eq}
use Rattle.std.specs.List.{list_any}
use Rattle.std.specs.Map.{lookup}
use Rattle.std.specs.String.{string_bytes}
use Rattle.cse_lemmas.proofs.Options.{none_from_is_some}
use Rattle.cse_dict.proofs.PlaceLaws.{is_some-copied}
use Rattle.cse_logic_names.specs.MessageFile.{MessageText}
use Rattle.cse_logic_names.proofs.MessageLaws.{any_told, made, told, told_more, with_message-there, with_message-new}
use Rattle.cse_logic_names.proofs.messages.Found.add.Goals as goal

pub returns-then-is_some : goal.returns-then-is_some
returns-then-is_some c =
    let n : ℕ = c.message.inside.number in
    let there : list_any (λ (x : MessageText). nat_eq c.args.message.number x.number) c.args.self.now ≡ true =
    ap (λ k. list_any (λ (x : MessageText). nat_eq k x.number) c.args.self.now) (sym (ap (λ (m : MessageText). m.number) c.message.view_is))
    ∙ ap (list_any (λ (x : MessageText). nat_eq n x.number)) (sym c.self.view_is)
    ∙ any_told string_bytes n c.self.inside.table
    ∙ ap is_some (sym c.get.ensures) ∙ is_some-copied c.get.result ∙ sym c.is_some.ensures ∙ c.if-is_some.true in
    sym (with_message-there c.args.self.now c.args.message there)

pub push-requires : goal.push-requires
push-requires c =
    let n : ℕ = c.message.inside.number in
    none_from_is_some (lookup (nat_eq n) c.self.inside.table) (ap is_some (sym c.get.ensures) ∙ is_some-copied c.get.result ∙ sym c.is_some.ensures ∙ c.if-is_some.false)

pub returns : goal.returns
returns c =
    let n : ℕ = c.message.inside.number in
    let es = c.self.inside.table in
    let absent : is_some (lookup (nat_eq n) es) ≡ false = ap is_some (sym c.get.ensures) ∙ is_some-copied c.get.result ∙ sym c.is_some.ensures ∙ c.if-is_some.false in
    let is : made n (string_bytes c.in_ok-text.text) ≡ c.args.message = ap (made n) c.in_ok-text.ensures.ok ∙ c.message.view_is in
    ap (told string_bytes) c.in_ok-push.ensures.added
    ∙ told_more string_bytes es n c.in_ok-text.text
    ∙ ap (λ m. told string_bytes es ++ m ∷ []) is
    ∙ ap (λ ms. ms ++ c.args.message ∷ []) c.self.view_is
    ∙ sym (with_message-new c.args.self.now c.args.message (
    ap (λ k. list_any (λ (x : MessageText). nat_eq k x.number) c.args.self.now) (sym (ap (λ (m : MessageText). m.number) c.message.view_is))
    ∙ ap (list_any (λ (x : MessageText). nat_eq n x.number)) (sym c.self.view_is)
    ∙ any_told string_bytes n es ∙ absent))
