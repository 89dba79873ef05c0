use Rattle.cse_edit.proofs.Edits.{all_behind}
use Rattle.cse_edit.proofs.editing.edit.Goals as goal

pub returns-in-Ok-clause-stops : goal.returns-in-Ok-clause-stops
returns-in-Ok-clause-stops g c =
    all_behind c.args.texts.now.dictionary.now _ _ _ _ c.in-Ok.dictionary _ _ (record { sound = c.in-Ok.ensures.sound; is = c.in-Ok.ensures.dictionary }) c.edit_with.result c.edit_with.ensures.stops
