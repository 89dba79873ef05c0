use Rattle.std.proofs.Common.{ap, ◌∙◌, sym}
use Rattle.cse_types.proofs.Truths.{none, empty_where_none}
use Rattle.cse_types.proofs.Expressions.{expr_told}
use Rattle.cse_types.proofs.told_laws.unsound_expressions_have_faults.Goals as goal

pub returns : goal.returns
returns c = record {
  no_fault_where_sound = λ c s top x k h. empty_where_none _ (sym (expr_told c s k top x) ∙ h);
  sound_where_no_fault = λ c s top x k h. expr_told c s k top x ∙ ap none h;
}
