use Rattle.cse_value.specs.contracts.device.ReadsInput.TheImpl as reads
use Rattle.cse_value.specs.contracts.device.WritesOutput.TheImpl as writes
use Rattle.cse_command_parts.specs.Told.{told_by}
use Rattle.cse_command_parts.proofs.FileLaws.{starts_from}
use Rattle.std.proofs.Common.{inl, inr, option_copied, option_map}
use Rattle.std.proofs.lemmas.Result.{err_from_is_err_and}
use Rattle.cse_command_parts.proofs.HaltLaws.{gave_there, no_store}
use Rattle.cse_commands.proofs.run_image.run_verified.Goals as goal

pub returns-clause-runs : goal.returns-clause-runs
returns-clause-runs g c =
    let input = reads.ghosts g.row.R-File g.R.File.Read g.R.File.Read-dict in
    let output = writes.ghosts g.row.R-File g.R.File.Write g.R.File.Write-dict in
    record {
      store = c.in_ok-store.store;
      starts = starts_from (told_by input.given output.taken output.has_failed) _ _ c.in_ok-decks.decks _ c.bytes_of.result c.in_ok-store.store
          c.program.ensures.program c.bytes_of.ensures c.in_ok-decks.ensures.whole c.in_ok-store.ensures.first c.in_ok-store.ensures.loaded;
      runs = c.in_ok-ran.ensures.took;
    }

pub returns-in_err-store-clause-stops : goal.returns-in_err-store-clause-stops
returns-in_err-store-clause-stops g c =
    let input = reads.ghosts g.row.R-File g.R.File.Read g.R.File.Read-dict in
    let p = err_from_is_err_and c.from_residual-in_err-store.result c.from_residual-in_err-store.ensures.1 in
    rw (p.1, p.2)
    (inr (
      option_copied c.bytes_of.result,
      (
        gave_there input.given c.in_ok-decks.decks (option_map (λ s. s.now) c.args.paths.now.decks) _ _ c.in_ok-decks.ensures.path c.in_ok-decks.ensures.whole c.bytes_of.ensures,
        inl (no_store _ _ c.bytes_of.result c.in_err-store.field-0.0 c.program.ensures.program c.in_err-store.ensures.lacks_memory c.in_err-store.ensures.refused),
      ),
    ))
