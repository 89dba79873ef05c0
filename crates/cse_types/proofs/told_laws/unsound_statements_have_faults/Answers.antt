use Rattle.std.proofs.Common.{ap, ◌∙◌, sym}
use Rattle.cse_types.proofs.Truths.{none, empty_where_none}
use Rattle.cse_types.proofs.Statements.{block_told}
use Rattle.cse_types.proofs.told_laws.unsound_statements_have_faults.Goals as goal

pub returns : goal.returns
returns c = record {
  no_fault_where_sound = λ c s n x k h. empty_where_none _ (sym (block_told c s k n x) ∙ h);
  sound_where_no_fault = λ c s n x k h. block_told c s k n x ∙ ap none h;
}
