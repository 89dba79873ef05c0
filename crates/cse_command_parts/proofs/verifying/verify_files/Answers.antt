use Rattle.std.proofs.Common.{◌∙◌, ap, inl, inr, refl, sym}
use Rattle.std.proofs.lemmas.Result.{err_from_is_err_and}
use Rattle.cse_value.specs.contracts.device.ReadsInput.TheImpl as reads
use Rattle.cse_command_parts.specs.declared.outcome.Stop.TheVariants.{Refused}
use Rattle.cse_command_parts.proofs.FileLaws.{prints_same}
use Rattle.cse_command_parts.proofs.HaltLaws.{gave_all, gave_bytes}
use Rattle.cse_command_parts.proofs.verifying.verify_files.Goals as goal

pub returns-in_err-dict-clause-stops : goal.returns-in_err-dict-clause-stops
returns-in_err-dict-clause-stops g c =
    let p = err_from_is_err_and c.from_residual.result c.from_residual.ensures.1 in
    rw (p.1, p.2) (inl c.in_err-dict.ensures.no_text)

pub returns-in_err-image-clause-stops : goal.returns-in_err-image-clause-stops
returns-in_err-image-clause-stops g c =
    let input = reads.ghosts g.row.R-File g.R.File.Read g.R.File.Read-dict in
    let p = err_from_is_err_and c.from_residual-in_err-image.result c.from_residual-in_err-image.ensures.1 in
    rw (p.1, p.2)
    (inr (
      c.in_ok-dict.dict.bytes.items,
      (
        gave_all input.given c.in_ok-dict.dict c.args.dict.now c.in_ok-dict.dict.bytes.items c.in_ok-dict.ensures.path c.in_ok-dict.ensures.all refl,
        inl c.in_err-image.ensures.unread,
      ),
    ))

pub returns-in-Ok-clause-verifies : goal.returns-in-Ok-clause-verifies
returns-in-Ok-clause-verifies g c =
    let q = prints_same _ _ _ _ _ _ (c.bytes.ensures ∙ sym c.in_ok-dict.ensures.all.gave) (c.bytes-2.ensures ∙ sym c.in_ok-image.ensures.whole.gave) c.in-Ok.ensures.passes in
    record {
      verifies = record { dict_path = c.in_ok-dict.ensures.path; image_path = c.in_ok-image.ensures.path; dict_end = c.in_ok-dict.ensures.all.end; passes = q.0 };
      prints = q.1;
    }

pub returns-clause-stops : goal.returns-clause-stops
returns-clause-stops g c =
    let input = reads.ghosts g.row.R-File g.R.File.Read g.R.File.Read-dict in
    inr (
      c.bytes.result.now,
      (
        gave_all input.given c.in_ok-dict.dict c.args.dict.now c.bytes.result.now c.in_ok-dict.ensures.path c.in_ok-dict.ensures.all c.bytes.ensures,
        inr (
          c.bytes-2.result.now,
          (
            gave_bytes input.given c.in_ok-image.image c.args.image.now c.bytes-2.result.now _ c.in_ok-image.ensures.path c.in_ok-image.ensures.whole c.bytes-2.ensures,
            record { fault = c.in-Err.fault; why = c.in-Err.ensures.fails; tells = ap Refused c.of_verify.ensures },
          ),
        ),
      ),
    )
