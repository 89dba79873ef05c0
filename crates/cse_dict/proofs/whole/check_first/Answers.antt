use Rattle.std.proofs.Common.{◌∙◌, ◌++◌, sym, ap}
use Rattle.std.specs.Prelude.{codes}
use Rattle.std.proofs.lemmas.List.Sums.{fold-append}
use Rattle.cse_dict.specs.Types.{type_len_of}
use Rattle.cse_dict.specs.Faults.{name_faults, note, note_all, optional_faults, start_faults}
use Rattle.cse_dict.proofs.whole.check_first.Goals as goal

pub returns-clause-found : goal.returns-clause-found
returns-clause-found c =
    let first = c.args.first.now in
    let named = name_faults c.args.names.now first in
    let len = optional_faults first (codes "RecordTypeLen") 0 16 in
    c.check_start.ensures
    ∙ ap (λ l. note_all c.check_optional.new.found (start_faults l first)) c.type_len_of.ensures.len
    ∙ ap (λ f. note_all f (start_faults (type_len_of first) first)) (
    c.check_optional.ensures
    ∙ ap (λ f. note_all f len) c.in_ok-check_name.ensures.found
    ∙ sym (fold-append note c.args.found.now named len))
    ∙ sym (fold-append note c.args.found.now (named ++ len) (start_faults (type_len_of first) first))
