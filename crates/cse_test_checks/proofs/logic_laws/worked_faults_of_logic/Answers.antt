use Rattle.std.proofs.Common.{refl}
use Rattle.cse_logic_faults.specs.Faults.{unless, least_of, sort_of, text_token}
use Rattle.cse_logic_faults.specs.FaultsOfExpressions.{expr_faults, numbers_faults, operations_faults}
use Rattle.cse_logic_faults.specs.FaultsOfStatements.{stmt_faults, stmts_faults, arms_faults}
use Rattle.cse_logic_names.specs.Scope.{meant, kind_and_owner, found}
use Rattle.cse_logic_names.specs.WellTyped.{value_of}
use Rattle.cse_syntax_tree.specs.Leaf.{is_within, is_digits}
use Rattle.cse_test_checks.proofs.logic_laws.worked_faults_of_logic.Goals as goal

pub returns : goal.returns
unfolding unless least_of sort_of text_token expr_faults numbers_faults operations_faults stmt_faults stmts_faults arms_faults meant kind_and_owner found value_of is_within is_digits
returns c = record {
  text_assigned = refl;
  two_of_one = refl;
  lesser_told = refl;
  in_parentheses = refl;
  too_early = refl;
  current = refl;
  no_deck = refl;
  no_record = refl;
  put_no_deck = refl;
  put_told = refl;
  id_assigned = refl;
  head_at_fault = refl;
}
