use Rattle.std.proofs.Common.{◌∙◌, ap, inl, inr, sym}
use Rattle.std.proofs.lemmas.Result.{err_from_is_err_and}
use Rattle.cse_value.specs.contracts.device.ReadsInput.TheImpl as reads
use Rattle.cse_command_parts.specs.declared.outcome.Stop.TheVariants.{Refused}
use Rattle.cse_command_images.proofs.TriedLaws.{trial_same}
use Rattle.cse_command_parts.proofs.HaltLaws.{gave_bytes}
use Rattle.cse_command_images.proofs.trying.try_file.Goals as goal

pub returns-in_err-image-clause-stops : goal.returns-in_err-image-clause-stops
returns-in_err-image-clause-stops g c =
    let p = err_from_is_err_and c.from_residual.result c.from_residual.ensures.1 in
    rw (p.1, p.2) (inl c.in_err-image.ensures.unread)

pub returns-in-Ok-clause-tries : goal.returns-in-Ok-clause-tries
returns-in-Ok-clause-tries g c =
    let q = trial_same _ _ _ _ _ (c.bytes.ensures ∙ sym c.in_ok-image.ensures.whole.gave) c.in-Ok.ensures.runs in
    record { tries = record { path = c.in_ok-image.ensures.path; steps = c.in-Ok.field-0; runs = q.0 }; prints = q.1 }

pub returns-clause-stops : goal.returns-clause-stops
returns-clause-stops g c =
    let input = reads.ghosts g.row.R-File g.R.File.Read g.R.File.Read-dict in
    inr (
      c.bytes.result.now,
      (
        gave_bytes input.given c.in_ok-image.image c.args.path.now c.bytes.result.now _ c.in_ok-image.ensures.path c.in_ok-image.ensures.whole c.bytes.ensures,
        record { fault = c.in-Err.fault; why = c.in-Err.ensures.refused; tells = ap Refused c.of_try.ensures },
      ),
    )
