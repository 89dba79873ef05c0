-- An operator with its operand, a value beside its placeholder, and what stands behind the conditions of an `if`.
use Rattle.std.specs.Prelude.{◌-◌, ◌++◌, Bool, false, List, Option, Some, None}
use Rattle.cse_image_parts.specs.declared.placeholders.ArgumentKind.{ArgumentKind}
use Rattle.cse_syntax_tree.specs.declared.tree.Operator.{Operator}
use Rattle.cse_syntax_tree.specs.First.{expr_token}
use Rattle.cse_syntax_tree.specs.Tree.{Expr, Stmts}
use Rattle.cse_logic_names.specs.Scope.{Scope}
use Rattle.cse_logic_names.specs.WellTyped.{may_divide}
use Rattle.cse_logic_faults.specs.Faults.{Fault, unless, Counts, sort_of}
use Rattle.cse_logic_faults.specs.FaultsOfExpressions.{expr_faults, number_faults}
use Rattle.cse_logic_faults.specs.FaultsOfStatements.{is_of, stmts_faults}

abbrev pub operation_faults : Counts → Scope → Bool → Operator × Expr → Bool → List Fault
operation_faults c s top x last = unless (may_divide top x.0 last) 46 (expr_token x.1 - 1) ++ number_faults c s false x.1

-- of a value for which no placeholder is left the kind is not looked at
abbrev pub argument_faults : Counts → Scope → Option ArgumentKind → Expr → List Fault
argument_faults c s None x = expr_faults c s false x
argument_faults c s (Some k) x = expr_faults c s false x ++ unless (is_of k (sort_of s x)) 44 (expr_token x)

-- a condition and the statements that it guards
abbrev pub arm_faults : Counts → Scope → Expr × Stmts → List Fault
arm_faults c s x = number_faults c s false x.0 ++ stmts_faults c s x.1
