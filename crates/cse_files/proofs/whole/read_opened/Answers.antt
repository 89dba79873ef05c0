use Rattle.std.proofs.Common.{ap}
use Rattle.std.proofs.lemmas.Result.{err_from_is_err_and}
use Rattle.cse_value.specs.contracts.device.ReadsInput.TheImpl as reads
use Rattle.cse_files.proofs.ReadLaws.{unread_of}
use Rattle.cse_files.proofs.whole.read_opened.Goals as goal

pub returns-in_err-bytes-clause-unread : goal.returns-in_err-bytes-clause-unread
returns-in_err-bytes-clause-unread g c =
    let input = reads.ghosts g.row.F g.F.Read g.F.Read-dict in
    let p = err_from_is_err_and c.from_residual.result c.from_residual.ensures.1 in
    rw (p.1, p.2)
    (unread_of input.given c.args.input.path c.read_all.new.input (input.given c.args.input.device) c.in_err-bytes.field-0.0 (ap (λ g. g.failures) c.requires.unread)
    c.in_err-bytes.ensures.stops)
