use Rattle.std.proofs.Common.{◌∙◌, inr, option_copied, option_map, subst, ℕ, List, Option}
use Rattle.std.proofs.lemmas.Result.{err_from_is_err_and}
use Rattle.cse_value.specs.contracts.device.ReadsInput.TheImpl as reads
use Rattle.cse_value.specs.contracts.device.WritesOutput.TheImpl as writes
use Rattle.cse_commands.specs.Edited.{EditsTexts}
use Rattle.cse_command_parts.specs.Told.{told_by}
use Rattle.cse_command_parts.proofs.FileLaws.{decks_are}
use Rattle.cse_command_parts.proofs.HaltLaws.{gave_there}
use Rattle.cse_commands.proofs.edit_data.edit_verified.Goals as goal

pub returns-clause-edits : goal.returns-clause-edits
returns-clause-edits g c =
    let input = reads.ghosts g.row.R-File g.R.File.Read g.R.File.Read-dict in
    let output = writes.ghosts g.row.R-File g.R.File.Write g.R.File.Write-dict in
    let t = told_by input.given output.taken output.has_failed in
    subst (λ (d : Option (List ℕ)). EditsTexts t c.args.text.now c.args.logic.now c.args.messages.now c.args.order.now d c.in_ok-ran.ran)
    (c.bytes_of.ensures ∙ decks_are t c.in_ok-decks.decks _ c.in_ok-decks.ensures.whole) c.in_ok-ran.ensures.took

pub returns-in_err-ran-clause-stops : goal.returns-in_err-ran-clause-stops
returns-in_err-ran-clause-stops g c =
    let input = reads.ghosts g.row.R-File g.R.File.Read g.R.File.Read-dict in
    let p = err_from_is_err_and c.from_residual-in_err-ran.result c.from_residual-in_err-ran.ensures.1 in
    rw (p.1, p.2)
    (inr (
      option_copied c.bytes_of.result,
      (
        gave_there input.given c.in_ok-decks.decks (option_map (λ s. s.now) c.args.paths.now.decks) _ _ c.in_ok-decks.ensures.path c.in_ok-decks.ensures.whole c.bytes_of.ensures,
        c.in_err-ran.ensures.stops,
      ),
    ))
