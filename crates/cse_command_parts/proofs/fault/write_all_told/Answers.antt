use Rattle.std.proofs.lemmas.Result.{err_from_is_err_and}
use Rattle.cse_command_parts.specs.FaultLine.{told}
use Rattle.cse_command_parts.proofs.PrintLaws.{front_or}
use Rattle.cse_command_parts.proofs.fault.write_all_told.Goals as goal

pub returns-in_err-write_told-clause-bytes : goal.returns-in_err-write_told-clause-bytes
returns-in_err-write_told-clause-bytes g c =
    let p = err_from_is_err_and c.from_residual.result c.from_residual.ensures.1 in
    rw (p.1) (front_or (λ part. told part.0.now part.1) c.args.parts.now c.loop-part.part-index _ _ _ _ c.loop-part-test.true c.loop-part.invariant.bytes c.in_err-write_told.ensures.bytes)
