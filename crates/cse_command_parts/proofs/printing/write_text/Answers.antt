use Rattle.std.proofs.lemmas.Result.{err_from_is_err_and}
use Rattle.cse_command_parts.proofs.PrintLaws.{line_front, line_whole}
use Rattle.cse_command_parts.proofs.printing.write_text.Goals as goal

pub returns-in_err-write_all-clause-bytes : goal.returns-in_err-write_all-clause-bytes
returns-in_err-write_all-clause-bytes g c =
    let p = err_from_is_err_and c.from_residual.result c.from_residual.ensures.1 in
    rw (p.1) (line_front _ _ _ _ c.as_bytes.ensures.value c.in_err-write_all.ensures.bytes)

pub returns-clause-bytes : goal.returns-clause-bytes
returns-clause-bytes g c = line_whole c.write_all-2.result _ _ _ _ _ c.as_bytes.ensures.value c.in_ok-write_all.ensures.bytes c.write_all-2.ensures.bytes
