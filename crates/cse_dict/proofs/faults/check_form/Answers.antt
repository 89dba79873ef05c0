use Rattle.std.proofs.Common.{◌∙◌, sym, ap}
use Rattle.std.specs.Prelude.{codes}
use Rattle.std.proofs.lemmas.List.Sums.{fold-append}
use Rattle.cse_dict.specs.Faults.{form_faults, note, note_all, optional_faults}
use Rattle.cse_dict.proofs.faults.check_form.Goals as goal

pub returns : goal.returns
unfolding form_faults
returns c =
    let s = c.args.section.now in
    c.check_optional-2.ensures
    ∙ ap (λ f. note_all f (optional_faults s (codes "Decimal") 0 255)) c.check_optional.ensures
    ∙ sym (fold-append note c.args.found.now (optional_faults s (codes "Occurrences") 1 65535) (optional_faults s (codes "Decimal") 0 255))
