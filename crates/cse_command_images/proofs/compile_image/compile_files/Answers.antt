use Rattle.std.proofs.Common.{◌∙◌, ◌≡◌, List, ap, inl, inr, length, option_map, refl, subst, sym, ℕ}
use Rattle.cse_value.specs.contracts.device.ReadsInput.TheImpl as reads
use Rattle.cse_value.specs.contracts.device.WritesOutput.TheImpl as writes
use Rattle.cse_command_parts.specs.Told.{told_by}
use Rattle.cse_command_parts.specs.Vetted.{IsReadAs}
use Rattle.cse_command_images.proofs.CompiledLaws.{image_same}
use Rattle.cse_command_parts.proofs.FileLaws.{text_ends, text_is}
use Rattle.std.proofs.lemmas.Result.{err_from_is_err_and}
use Rattle.cse_command_parts.proofs.HaltLaws.{at_dict, at_texts, behind_dict, behind_texts, gave_all, gave_named}
use Rattle.cse_command_parts.specs.declared.role.Use.{Use}
use Rattle.cse_command_parts.specs.Apart.{TellsOneFile}
use Rattle.cse_command_images.proofs.compile_image.compile_files.Goals as goal

pub returns-clause-paths : goal.returns-clause-paths
returns-clause-paths g c =
    rw (c.into_file.ensures, ap (λ x. x.0) c.into_parts-logic.ensures, ap (λ x. x.1) c.into_parts-logic.ensures, ap (λ x. x.2) c.into_parts-logic.ensures)
    (record {
      dict = c.in_ok-vetted.ensures.path;
      logic = c.in_ok-texts.ensures.path;
      messages = c.in_ok-texts.ensures.messages_path;
      order = c.in_ok-texts.ensures.order_path;
      image = c.in_ok-image.ensures.path;
    })

pub returns-clause-compiles : goal.returns-clause-compiles
returns-clause-compiles g c =
    let input = reads.ghosts g.row.R-File g.R.File.Read g.R.File.Read-dict in
    let output = writes.ghosts g.row.R-File g.R.File.Write g.R.File.Write-dict in
    let t = told_by input.given output.taken output.has_failed in
    let vetted = c.in_ok-vetted.vetted in
    let texts = c.in_ok-texts.texts in
    let taken : t.taken c.in_ok-image.image.device ≡ c.in_ok-bytes.bytes.items = c.in_ok-image.ensures.taken ∙ c.deref-2.ensures.value in
    rw (c.into_file.ensures, ap (λ x. x.0) c.into_parts-logic.ensures, ap (λ x. x.1) c.into_parts-logic.ensures, ap (λ x. x.2) c.into_parts-logic.ensures)
    (record {
      dict_end = c.in_ok-vetted.ensures.all.end;
      logic_end = c.in_ok-texts.ensures.all.end;
      messages_end = text_ends t texts.messages c.in_ok-texts.ensures.messages;
      order_end = text_ends t texts.order c.in_ok-texts.ensures.order;
      image =
          image_same _ _ _ _ _ _ _ _ _ vetted.dictionary
          (subst (λ (b : List ℕ). IsReadAs b vetted.dictionary) (sym c.in_ok-vetted.ensures.all.gave) (record { sound = c.in_ok-vetted.ensures.sound; is = c.in_ok-vetted.ensures.dictionary }))
          (c.bytes.ensures ∙ sym c.in_ok-texts.ensures.all.gave)
          (c.text_of.ensures ∙ text_is t texts.messages c.in_ok-texts.ensures.messages)
          (c.text_of-2.ensures ∙ text_is t texts.order c.in_ok-texts.ensures.order) (sym taken) c.in_ok-bytes.ensures.built c.in_ok-bytes.ensures.means;
      len_is = c.len.ensures ∙ (sym c.deref-2.ensures.len ∙ ap length (sym c.in_ok-image.ensures.taken));
    })

pub returns-in_err-uses_of_compile-clause-stops : goal.returns-in_err-uses_of_compile-clause-stops
returns-in_err-uses_of_compile-clause-stops g c =
    let p = err_from_is_err_and c.from_residual.result c.from_residual.ensures.1 in
    rw (p.1, p.2) (inl refl)

pub returns-in_err-see_apart-clause-stops : goal.returns-in_err-see_apart-clause-stops
returns-in_err-see_apart-clause-stops g c =
    let p = err_from_is_err_and c.from_residual-in_err-see_apart.result c.from_residual-in_err-see_apart.ensures.1 in
    rw (p.1, p.2)
    (inl (subst (λ (u : List Use). TellsOneFile u c.in_err-see_apart.field-0.0) (c.deref.ensures.value ∙ c.in_ok-uses_of_compile.ensures) c.in_err-see_apart.ensures.one_file))

pub returns-in_err-vetted-clause-stops : goal.returns-in_err-vetted-clause-stops
returns-in_err-vetted-clause-stops g c =
    let input = reads.ghosts g.row.R-File g.R.File.Read g.R.File.Read-dict in
    let p = err_from_is_err_and c.from_residual-in_err-vetted.result c.from_residual-in_err-vetted.ensures.1 in
    rw (p.1, p.2) (inr (at_dict input.given c.args.paths.now.dict.now c.in_err-vetted.field-0.0 _ c.in_err-vetted.ensures.stops))

pub returns-in_err-texts-clause-stops : goal.returns-in_err-texts-clause-stops
returns-in_err-texts-clause-stops g c =
    let input = reads.ghosts g.row.R-File g.R.File.Read g.R.File.Read-dict in
    let p = err_from_is_err_and c.from_residual-in_err-texts.result c.from_residual-in_err-texts.ensures.1 in
    let vetted = c.in_ok-vetted.vetted in
    rw (p.1, p.2)
    (inr
    (behind_dict input.given c.args.paths.now.dict.now c.in_err-texts.field-0.0 _ vetted.file.bytes.items vetted.dictionary
    (gave_all input.given vetted.file c.args.paths.now.dict.now vetted.file.bytes.items c.in_ok-vetted.ensures.path c.in_ok-vetted.ensures.all refl)
    (record { sound = c.in_ok-vetted.ensures.sound; is = c.in_ok-vetted.ensures.dictionary })
    (at_texts input.given c.args.paths.now.logic.now (option_map (λ s. s.now) c.args.paths.now.messages) (option_map (λ s. s.now) c.args.paths.now.order) c.in_err-texts.field-0.0 _ c.in_err-texts.ensures.stops)))

pub returns-in_err-bytes-clause-stops : goal.returns-in_err-bytes-clause-stops
returns-in_err-bytes-clause-stops g c =
    let input = reads.ghosts g.row.R-File g.R.File.Read g.R.File.Read-dict in
    let p = err_from_is_err_and c.from_residual-in_err-bytes.result c.from_residual-in_err-bytes.ensures.1 in
    let vetted = c.in_ok-vetted.vetted in
    let texts = c.in_ok-texts.texts in
    rw (p.1, p.2)
    (inr
    (behind_dict input.given c.args.paths.now.dict.now c.in_err-bytes.field-0.0 _ vetted.file.bytes.items vetted.dictionary
    (gave_all input.given vetted.file c.args.paths.now.dict.now vetted.file.bytes.items c.in_ok-vetted.ensures.path c.in_ok-vetted.ensures.all refl)
    (record { sound = c.in_ok-vetted.ensures.sound; is = c.in_ok-vetted.ensures.dictionary })
    (behind_texts input.given c.args.paths.now.logic.now (option_map (λ s. s.now) c.args.paths.now.messages) (option_map (λ s. s.now) c.args.paths.now.order) c.in_err-bytes.field-0.0 _ c.bytes.result.now c.text_of.result.now c.text_of-2.result.now
    (gave_all input.given texts.logic c.args.paths.now.logic.now c.bytes.result.now c.in_ok-texts.ensures.path c.in_ok-texts.ensures.all c.bytes.ensures)
    (gave_named input.given texts.messages (option_map (λ s. s.now) c.args.paths.now.messages) c.text_of.result.now c.in_ok-texts.ensures.messages_path c.in_ok-texts.ensures.messages c.text_of.ensures)
    (gave_named input.given texts.order (option_map (λ s. s.now) c.args.paths.now.order) c.text_of-2.result.now c.in_ok-texts.ensures.order_path c.in_ok-texts.ensures.order c.text_of-2.ensures)
    (inl c.in_err-bytes.ensures.refused))))

pub returns-in_err-image-clause-stops : goal.returns-in_err-image-clause-stops
returns-in_err-image-clause-stops g c =
    let input = reads.ghosts g.row.R-File g.R.File.Read g.R.File.Read-dict in
    let p = err_from_is_err_and c.from_residual-in_err-image.result c.from_residual-in_err-image.ensures.1 in
    let vetted = c.in_ok-vetted.vetted in
    let texts = c.in_ok-texts.texts in
    rw (p.1, p.2)
    (inr
    (behind_dict input.given c.args.paths.now.dict.now c.in_err-image.field-0.0 _ vetted.file.bytes.items vetted.dictionary
    (gave_all input.given vetted.file c.args.paths.now.dict.now vetted.file.bytes.items c.in_ok-vetted.ensures.path c.in_ok-vetted.ensures.all refl)
    (record { sound = c.in_ok-vetted.ensures.sound; is = c.in_ok-vetted.ensures.dictionary })
    (behind_texts input.given c.args.paths.now.logic.now (option_map (λ s. s.now) c.args.paths.now.messages) (option_map (λ s. s.now) c.args.paths.now.order) c.in_err-image.field-0.0 _ c.bytes.result.now c.text_of.result.now c.text_of-2.result.now
    (gave_all input.given texts.logic c.args.paths.now.logic.now c.bytes.result.now c.in_ok-texts.ensures.path c.in_ok-texts.ensures.all c.bytes.ensures)
    (gave_named input.given texts.messages (option_map (λ s. s.now) c.args.paths.now.messages) c.text_of.result.now c.in_ok-texts.ensures.messages_path c.in_ok-texts.ensures.messages c.text_of.ensures)
    (gave_named input.given texts.order (option_map (λ s. s.now) c.args.paths.now.order) c.text_of-2.result.now c.in_ok-texts.ensures.order_path c.in_ok-texts.ensures.order c.text_of-2.ensures)
    (inr (c.in_ok-bytes.bytes.items, (c.in_ok-bytes.ensures.built, c.in_err-image.ensures.unwritten))))))
