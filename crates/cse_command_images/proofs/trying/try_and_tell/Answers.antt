use Rattle.cse_value.specs.contracts.device.ReadsInput.TheImpl as reads
use Rattle.cse_value.specs.contracts.device.WritesOutput.TheImpl as writes
use Rattle.cse_command_parts.specs.Told.{told_by}
use Rattle.cse_command_images.proofs.TryLaws.{tries_so}
use Rattle.cse_command_images.proofs.trying.try_and_tell.Goals as goal

pub returns : goal.returns
returns g c =
    let input = reads.ghosts g.row.R-File g.R.File.Read g.R.File.Read-dict in
    let output = writes.ghosts g.row.R-File g.R.File.Write g.R.File.Write-dict in
    tries_so (told_by input.given output.taken output.has_failed) c.args.path.now (g.W.Output.taken c.args.out.now) (g.W.Output.taken c.try_file.new.out) c.try_file.result
    c.ended.result c.ended.ensures c.try_file.ensures.tries c.try_file.ensures.stops
