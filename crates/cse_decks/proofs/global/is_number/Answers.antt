use Rattle.std.proofs.Common.{rules, ◌≡◌, Some, ap, sym, ◌∙◌}
use Rattle.std.specs.Prelude.{slice_get, option_and_then, is_some}
use Rattle.std.proofs.lemmas.Option.{gets}
use Rattle.cse_decks.specs.Store.{number_in}
use Rattle.cse_decks.proofs.global.is_number.Goals as goal

pub returns-in-Some-Number : goal.returns-in-Some-Number
returns-in-Some-Number c =
    let there : slice_get c.args.globals.now c.args.g ≡ Some c.in-Some-Number.field-0.now = search (rules, gets) in
    sym (ap (λ o. is_some (option_and_then number_in o)) (there ∙ ap Some c.in-Some-Number.field-0-is))
