use Rattle.std.proofs.Common.{◌∙◌, List, inl, inr, subst, sym, ℕ}
use Rattle.cse_dict.specs.Dictionary.{shape_of}
use Rattle.cse_verify.specs.Checked.{IsAccepted}
use Rattle.std.proofs.lemmas.Result.{err_from_is_err_and}
use Rattle.cse_value.specs.contracts.device.ReadsInput.TheImpl as reads
use Rattle.cse_command_parts.proofs.HaltLaws.{check_fault, gave_bytes}
use Rattle.cse_commands.proofs.run_image.run_with.Goals as goal

pub returns-clause-runs : goal.returns-clause-runs
returns-clause-runs g c = record {
  program = c.in-Ok.verified;
  same = c.in-Ok.ensures.dictionary;
  accepted =
      subst (λ (b : List ℕ). IsAccepted (shape_of c.args.dictionary.now) b c.in-Ok.verified.image) (c.bytes.ensures ∙ sym c.in_ok-image.ensures.whole.gave) c.in-Ok.ensures.accepted;
  runs = c.in_ok-run-in-Ok.ensures.runs;
}

pub returns-in_err-image-clause-stops : goal.returns-in_err-image-clause-stops
returns-in_err-image-clause-stops g c =
    let p = err_from_is_err_and c.from_residual.result c.from_residual.ensures.1 in
    rw (p.1, p.2) (inl c.in_err-image.ensures.unread)

pub returns-in-Err-clause-stops : goal.returns-in-Err-clause-stops
returns-in-Err-clause-stops g c =
    let input = reads.ghosts g.row.R-File g.R.File.Read g.R.File.Read-dict in
    inr (
      c.bytes.result.now,
      (
        gave_bytes input.given c.in_ok-image.image c.args.paths.now.image.now c.bytes.result.now _ c.in_ok-image.ensures.path c.in_ok-image.ensures.whole c.bytes.ensures,
        inl (check_fault c.args.dictionary.now c.bytes.result.now c.in-Err.fault c.of_check.result c.in-Err.ensures.refused c.in-Err.ensures.only c.of_check.ensures),
      ),
    )

pub returns-in_err-run-in-Ok-clause-stops : goal.returns-in_err-run-in-Ok-clause-stops
returns-in_err-run-in-Ok-clause-stops g c =
    let input = reads.ghosts g.row.R-File g.R.File.Read g.R.File.Read-dict in
    let p = err_from_is_err_and c.from_residual-in_err-run-in-Ok.result c.from_residual-in_err-run-in-Ok.ensures.1 in
    rw (p.1, p.2)
    (inr (
      c.bytes.result.now,
      (
        gave_bytes input.given c.in_ok-image.image c.args.paths.now.image.now c.bytes.result.now _ c.in_ok-image.ensures.path c.in_ok-image.ensures.whole c.bytes.ensures,
        inr (c.in-Ok.verified, (record { same = c.in-Ok.ensures.dictionary; accepted = c.in-Ok.ensures.accepted }, c.in_err-run-in-Ok.ensures.stops)),
      ),
    ))
