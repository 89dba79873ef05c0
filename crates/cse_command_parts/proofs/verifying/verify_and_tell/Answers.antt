use Rattle.cse_value.specs.contracts.device.ReadsInput.TheImpl as reads
use Rattle.cse_value.specs.contracts.device.WritesOutput.TheImpl as writes
use Rattle.cse_command_parts.specs.Told.{told_by}
use Rattle.cse_command_parts.proofs.PrintsLaws.{verifies_so}
use Rattle.cse_command_parts.proofs.verifying.verify_and_tell.Goals as goal

pub returns : goal.returns
returns g c =
    let input = reads.ghosts g.row.R-File g.R.File.Read g.R.File.Read-dict in
    let output = writes.ghosts g.row.R-File g.R.File.Write g.R.File.Write-dict in
    verifies_so (told_by input.given output.taken output.has_failed) c.args.dict.now c.args.image.now (g.W.Output.taken c.args.out.now)
    (g.W.Output.taken c.verify_files.new.out) c.verify_files.result c.ended.result c.ended.ensures c.verify_files.ensures.verifies c.verify_files.ensures.stops
