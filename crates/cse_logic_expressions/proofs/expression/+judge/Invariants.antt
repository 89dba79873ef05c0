use Rattle.std.proofs.Common.{◌≡◌, ◌+◌, length, map, drop}
use Rattle.std.specs.Prelude.{false}
use Rattle.cse_syntax_tree.specs.Tree as syntax
use Rattle.cse_syntax_tree.specs.Tree.{expr}
use Rattle.cse_logic_tree.specs.Typed.{number, operation_tree}
use Rattle.cse_logic_expressions.specs.Judge.{judge, judge_operation, as_number}
use Rattle.cse_logic_names.specs.Walk.{walk, so_far}
use Rattle.cse_logic_names.proofs.Walks.{is_none}
use Rattle.cse_logic_expressions.proofs.expression.+judge.Given as goal

abbrev pub invariant-all_values-all : goal.invariant-all_values-all
invariant-all_values-all l = so_far l.is_sound (map number l.found.items) (walk (λ x rest. as_number (judge l.scope false (expr x))) (drop l.x-index l.inner.items)) ≡ walk (λ x rest. as_number (judge l.scope false (expr x))) l.inner.items

abbrev pub invariant-all_operations-all : goal.invariant-all_operations-all
invariant-all_operations-all l = record {
  value : so_far l.is_sound (map operation_tree l.found.items) (walk (λ x rest. judge_operation l.scope l.top (syntax.operation_tree x) (is_none rest)) (drop l.x-index l.others.items)) ≡ walk (λ x rest. judge_operation l.scope l.top (syntax.operation_tree x) (is_none rest)) l.others.items;
  left : l.left + l.x-index ≡ length l.others.items;
}
