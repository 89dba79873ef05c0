use Rattle.std.proofs.Common.{option_copied}
use Rattle.std.proofs.lemmas.Result.{IfOk-weaker}
use Rattle.cse_value.specs.contracts.device.ReadsInput.TheImpl as reads
use Rattle.cse_value.specs.contracts.device.WritesOutput.TheImpl as writes
use Rattle.cse_commands.specs.Ran.{have_failed, took}
use Rattle.cse_command_parts.specs.Told.{told_by}
use Rattle.cse_commands.proofs.EditedLaws.{tells_edit}
use Rattle.cse_commands.proofs.edit_data.edit_over.Goals as goal

pub returns-clause-took : goal.returns-clause-took
returns-clause-took g c =
    let input = reads.ghosts g.row.R-File g.R.File.Read g.R.File.Read-dict in
    let output = writes.ghosts g.row.R-File g.R.File.Write g.R.File.Write-dict in
    let t = told_by input.given output.taken output.has_failed in
    IfOk-weaker c.run_over.result _ _
    (λ ran runs.
    tells_edit c.args.verified.now c.batches_mean.ensures c.args.text.now c.args.logic.now c.args.messages.now c.args.order.now c.args.image.now (option_copied c.args.decks)
    c.requires.read c.requires.stands c.requires.built c.args.store c.requires.starts c.requires.fits (t.given ran.input.device) (took t ran) (have_failed t ran) ran.told runs)
    c.run_over.ensures.took
