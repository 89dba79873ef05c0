use Rattle.std.proofs.Common.{rules, ◌≡◌, Some, ap, sym, ◌∙◌}
use Rattle.std.specs.Prelude.{slice_get, option_and_then, is_some}
use Rattle.std.proofs.lemmas.Option.{gets}
use Rattle.cse_decks.specs.Store.{text_in}
use Rattle.cse_decks.proofs.global.is_text.Goals as goal

pub returns-in-Some-Words : goal.returns-in-Some-Words
returns-in-Some-Words c =
    let there : slice_get c.args.globals.now c.args.g ≡ Some c.in-Some-Words.field-0.now = search (rules, gets) in
    sym (ap (λ o. is_some (option_and_then text_in o)) (there ∙ ap Some c.in-Some-Words.field-0-is))
