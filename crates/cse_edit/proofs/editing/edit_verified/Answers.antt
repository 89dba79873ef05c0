use Rattle.std.proofs.Common.{refl, subst}
use Rattle.std.specs.Option.{option_copied}
use Rattle.cse_image_parts.specs.Image.{Image}
use Rattle.cse_decks.specs.Store.{StoreFits}
use Rattle.cse_edit.specs.Edit.{IsNoStartOf, IsStartOf}
use Rattle.cse_edit.proofs.Edits.{edits, no_start, stops}
use Rattle.cse_edit.proofs.editing.edit_verified.Goals as goal

pub returns-in-Err-clause-stops : goal.returns-in-Err-clause-stops
returns-in-Err-clause-stops g c =
    no_start c.args.verified.now c.batches_mean.ensures _ _ _ c.args.image.now c.requires.stands c.requires.built (option_copied c.args.texts.now.decks) _ _ c.in-Err.fault
    (record { input = refl; outputs = refl })
    (subst (λ (x : Image). IsNoStartOf x (option_copied c.args.texts.now.decks) c.in-Err.fault) c.program.ensures.program c.in-Err.ensures.fault)

pub returns-in-Ok-run-clause-whole : goal.returns-in-Ok-run-clause-whole
returns-in-Ok-run-clause-whole g c =
    edits c.args.verified.now c.batches_mean.ensures _ _ _ c.args.image.now c.requires.stands c.requires.built (option_copied c.args.texts.now.decks) c.in-Ok.store
    (subst (λ (x : Image). IsStartOf x (option_copied c.args.texts.now.decks) c.in-Ok.store) c.program.ensures.program c.in-Ok.ensures.store)
    (subst (λ (x : Image). StoreFits x c.in-Ok.store) c.program.ensures.program c.in-Ok.ensures.fits) _ c.in-Ok-run.totals c.in-Ok-run.ensures.ok

pub returns-in-Err-run-clause-stops : goal.returns-in-Err-run-clause-stops
returns-in-Err-run-clause-stops g c =
    stops c.args.verified.now c.batches_mean.ensures _ _ _ c.args.image.now c.requires.stands c.requires.built (option_copied c.args.texts.now.decks) c.in-Ok.store
    (subst (λ (x : Image). IsStartOf x (option_copied c.args.texts.now.decks) c.in-Ok.store) c.program.ensures.program c.in-Ok.ensures.store)
    (subst (λ (x : Image). StoreFits x c.in-Ok.store) c.program.ensures.program c.in-Ok.ensures.fits) _ _ c.in-Err-run.fault c.in-Err-run.ensures.err
