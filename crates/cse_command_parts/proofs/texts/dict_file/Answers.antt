use Rattle.std.proofs.Common.{inl, inr, refl}
use Rattle.cse_value.specs.contracts.device.ReadsInput.TheImpl as reads
use Rattle.std.proofs.lemmas.Result.{err_from_is_err_and}
use Rattle.cse_command_parts.proofs.HaltLaws.{dict_fault, gave_all}
use Rattle.cse_command_parts.proofs.texts.dict_file.Goals as goal

pub returns-in_err-file-clause-stops : goal.returns-in_err-file-clause-stops
returns-in_err-file-clause-stops g c =
    let p = err_from_is_err_and c.from_residual.result c.from_residual.ensures.1 in
    rw (p.1, p.2) (inl c.in_err-file.ensures.no_text)

pub returns-clause-stops : goal.returns-clause-stops
returns-clause-stops g c =
    let input = reads.ghosts g.row.R-File g.R.File.Read g.R.File.Read-dict in
    inr (
      c.bytes.result.now,
      (
        gave_all input.given c.in_ok-file.file c.args.path.now c.bytes.result.now c.in_ok-file.ensures.path c.in_ok-file.ensures.all c.bytes.ensures,
        inl (dict_fault c.bytes.result.now c.in-Err.error c.of_dictionary.result c.in-Err.ensures.fault c.of_dictionary.ensures),
      ),
    )
