-- A function, judged in the scope that its parameters make.
use Rattle.std.proofs.Common.{◌≡◌, ℕ, Bool, true, false, List, Option, Some, None, refl, ap, ◌∙◌}
use Rattle.std.specs.Prelude.{option_map}
use Rattle.cse_syntax_tree.specs.Tree as syntax
use Rattle.cse_syntax_tree.specs.Tree.{Spelling}
use Rattle.cse_logic_tree.specs.Typed.{Statements, Function}
use Rattle.cse_types.specs.declared.fresh.Fresh.{Fresh}
use Rattle.cse_logic_names.specs.Scope.{Scope}
use Rattle.cse_logic_names.specs.WellTyped.{parameter_names}
use Rattle.cse_logic_expressions.specs.JudgeStatement.{judge_block}
use Rattle.cse_types.specs.JudgeTree.{function_of, function_judged}
use Rattle.cse_types.specs.Names.{is_new}
use Rattle.cse_types.specs.Fresh.{body_scope, fresh_names}
use Rattle.cse_logic_names.specs.Walk.{only_if}
use Rattle.cse_types.proofs.FreshLaws.{fresh_sound, fresh_are}

module _ (s : Scope) (n : ℕ) (name : Spelling) (ps : List syntax.Parameter) (body : syntax.Stmts) where
  abbrev pub fresh : Fresh
  fresh = fresh_names (is_new s.dictionary s.declared) (parameter_names ps)

  abbrev pub judged : Option Statements
  judged = judge_block (body_scope s fresh.names) n body

  same_judged : (b : Bool) → fresh.is_sound ≡ b → only_if b (option_map (function_of s name ps) judged) ≡ only_if b (option_map (function_of s name ps) (judge_block (body_scope s (parameter_names ps)) n body))
  same_judged true e = ap (λ names. option_map (function_of s name ps) (judge_block (body_scope s names) n body)) (fresh_are (is_new s.dictionary s.declared) (parameter_names ps) e)
  same_judged false e = refl

  pub function_is : only_if fresh.is_sound (option_map (function_of s name ps) judged) ≡ function_judged s n name ps body
  function_is =
      same_judged fresh.is_sound refl
      ∙ ap (λ b. only_if b (option_map (function_of s name ps) (judge_block (body_scope s (parameter_names ps)) n body))) (fresh_sound (is_new s.dictionary s.declared) (parameter_names ps))

pub with_facts : {A B : Type 0} (g : A → Function) (h : Function → B) (o : Option A) → option_map (λ p. h (g p)) o ≡ option_map h (option_map g o)
with_facts g h None = refl
with_facts g h (Some p) = refl
