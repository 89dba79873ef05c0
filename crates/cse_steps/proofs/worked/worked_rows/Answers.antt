use Rattle.std.proofs.Common.{refl}
use Rattle.cse_case.specs.Case.{places_of}
use Rattle.cse_case.specs.Seen.{occurrence_places}
use Rattle.cse_code_typing.specs.Code.{code_of}
use Rattle.cse_steps.specs.Operands.{combined, popped}
use Rattle.cse_steps.specs.Step.{acts}
use Rattle.cse_steps.specs.Run.{first, run}
use Rattle.cse_steps.proofs.worked.worked_rows.Goals as goal

pub returns : goal.returns
unfolding run first acts code_of places_of occurrence_places combined popped
returns c = record {
  three_persons = refl;
  two_persons = refl;
  index_is_there = refl;
  index_is_not = refl;
  occurrence_is_there = refl;
  occurrence_is_not = refl;
  record_is_not = refl;
  return_ends_brackets = refl;
  outer_occurrence = refl;
  text_is_cut = refl;
  text_is_padded = refl;
  steps_are_added = refl;
  reports_in_order = refl;
}
