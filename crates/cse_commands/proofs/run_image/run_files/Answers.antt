use Rattle.std.proofs.Common.{List, inl, inr, refl, subst, sym, ◌∙◌, ℕ}
use Rattle.cse_command_parts.specs.Vetted.{IsReadAs}
use Rattle.std.proofs.lemmas.Result.{err_from_is_err_and}
use Rattle.cse_value.specs.contracts.device.ReadsInput.TheImpl as reads
use Rattle.cse_command_parts.proofs.HaltLaws.{at_dict, behind_dict, gave_all}
use Rattle.cse_command_parts.specs.declared.role.Use.{Use}
use Rattle.cse_command_parts.specs.Apart.{TellsOneFile}
use Rattle.cse_commands.proofs.run_image.run_files.Goals as goal

pub returns-clause-paths : goal.returns-clause-paths
returns-clause-paths g c =
    rw c.into_file.ensures
    (record {
      dict = c.in_ok-vetted.ensures.path;
      image = c.in_ok-program.ensures.image;
      run = c.in_ok-program.ensures.paths;
    })

pub returns-clause-runs : goal.returns-clause-runs
returns-clause-runs g c =
    rw c.into_file.ensures
    (record {
      dictionary = c.in_ok-vetted.vetted.dictionary;
      end = c.in_ok-vetted.ensures.all.end;
      read =
          subst (λ (b : List ℕ). IsReadAs b c.in_ok-vetted.vetted.dictionary) (sym c.in_ok-vetted.ensures.all.gave)
          (record { sound = c.in_ok-vetted.ensures.sound; is = c.in_ok-vetted.ensures.dictionary });
      runs = c.in_ok-program.ensures.runs;
    })

pub returns-in_err-uses_of_run-clause-stops : goal.returns-in_err-uses_of_run-clause-stops
returns-in_err-uses_of_run-clause-stops g c =
    let p = err_from_is_err_and c.from_residual.result c.from_residual.ensures.1 in
    rw (p.1, p.2) (inl refl)

pub returns-in_err-see_apart-clause-stops : goal.returns-in_err-see_apart-clause-stops
returns-in_err-see_apart-clause-stops g c =
    let p = err_from_is_err_and c.from_residual-in_err-see_apart.result c.from_residual-in_err-see_apart.ensures.1 in
    rw (p.1, p.2)
    (inl (subst (λ (u : List Use). TellsOneFile u c.in_err-see_apart.field-0.0) (c.deref.ensures.value ∙ c.in_ok-uses_of_run.ensures) c.in_err-see_apart.ensures.one_file))

pub returns-in_err-vetted-clause-stops : goal.returns-in_err-vetted-clause-stops
returns-in_err-vetted-clause-stops g c =
    let input = reads.ghosts g.row.R-File g.R.File.Read g.R.File.Read-dict in
    let p = err_from_is_err_and c.from_residual-in_err-vetted.result c.from_residual-in_err-vetted.ensures.1 in
    rw (p.1, p.2) (inr (at_dict input.given c.args.paths.now.dict.now c.in_err-vetted.field-0.0 _ c.in_err-vetted.ensures.stops))

pub returns-in_err-program-clause-stops : goal.returns-in_err-program-clause-stops
returns-in_err-program-clause-stops g c =
    let input = reads.ghosts g.row.R-File g.R.File.Read g.R.File.Read-dict in
    let p = err_from_is_err_and c.from_residual-in_err-program.result c.from_residual-in_err-program.ensures.1 in
    let vetted = c.in_ok-vetted.vetted in
    rw (p.1, p.2)
    (inr
    (behind_dict input.given c.args.paths.now.dict.now c.in_err-program.field-0.0 _ vetted.file.bytes.items vetted.dictionary
    (gave_all input.given vetted.file c.args.paths.now.dict.now vetted.file.bytes.items c.in_ok-vetted.ensures.path c.in_ok-vetted.ensures.all refl)
    (record { sound = c.in_ok-vetted.ensures.sound; is = c.in_ok-vetted.ensures.dictionary }) c.in_err-program.ensures.stops))
