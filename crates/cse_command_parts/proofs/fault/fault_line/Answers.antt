use Rattle.std.proofs.lemmas.Result.{err_from_is_err_and}
use Rattle.cse_command_parts.proofs.FaultLaws.{words_front, words_whole}
use Rattle.cse_command_parts.proofs.fault.fault_line.Goals as goal

pub returns-in_err-write_all_told-clause-bytes : goal.returns-in_err-write_all_told-clause-bytes
returns-in_err-write_all_told-clause-bytes g c =
    let p = err_from_is_err_and c.from_residual.result c.from_residual.ensures.1 in
    rw (p.1) (words_front c.from.result c.args.fault.now _ _ c.from.ensures c.in_err-write_all_told.ensures.bytes)

pub returns-clause-bytes : goal.returns-clause-bytes
returns-clause-bytes g c = words_whole c.write_all.result c.from.result c.args.fault.now _ _ _ c.from.ensures c.in_ok-write_all_told.ensures.bytes c.write_all.ensures.bytes
