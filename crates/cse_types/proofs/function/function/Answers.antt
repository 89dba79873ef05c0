use Rattle.std.proofs.Common.{◌≡◌, ap, ◌∙◌, subst, ◌++◌, ◌∷◌, [], length, map, Option}
use Rattle.std.specs.Prelude.{option_map, IfOk, OnOk}
use Rattle.cse_syntax_tree.specs.Tree as syntax
use Rattle.cse_syntax_tree.specs.Tree.{written}
use Rattle.cse_logic_tree.specs.Typed as typed
use Rattle.cse_logic_tree.specs.Typed.{Statements}
use Rattle.cse_types.specs.declared.fresh.Fresh.{Fresh}
use Rattle.cse_logic_names.specs.Scope.{Scope, Facts}
use Rattle.cse_logic_names.specs.Uses.{facts_of}
use Rattle.cse_logic_expressions.specs.JudgeStatement.{judge_block}
use Rattle.cse_types.specs.JudgeTree as spec
use Rattle.cse_types.specs.Fresh.{body_scope}
use Rattle.cse_logic_names.specs.Walk.{only_if}
use Rattle.cse_types.proofs.FunctionLaws.{function_is, with_facts}
use Rattle.cse_types.proofs.function.function.Goals as goal
use Rattle.cse_types.proofs.function.function.Goals.{After-ended}

made_is : (c : After-ended) → option_map (λ p. typed.function p.0) c.in-Ok-made.made ≡ spec.function_judged c.args.scope.now (length c.args.told.now.items) (written c.args.name) (map syntax.parameter c.args.all.now.items) (syntax.block c.args.body.now.items)
made_is c =
    let s = c.args.scope.now in
    let n = length c.args.told.now.items in
    let name = written c.args.name in
    let ps = map syntax.parameter c.args.all.now.items in
    let body = syntax.block c.args.body.now.items in
    c.in-Ok-made.ensures.function
    ∙ ap (λ (z : Scope). only_if c.in_ok-fresh.fresh.is_sound (option_map (spec.function_of z name ps) (option_map (λ v. typed.block v.items) c.in-Ok.found))) c.in-Ok.ensures.same
    ∙ ap (λ (o : Option Statements). only_if c.in_ok-fresh.fresh.is_sound (option_map (spec.function_of s name ps) o)) c.in-Ok.ensures.value
    ∙ ap (λ (f : Fresh). only_if f.is_sound (option_map (spec.function_of s name ps) (judge_block (body_scope s f.names) n body))) c.in_ok-fresh.ensures
    ∙ function_is s n name ps body

pub returns-in-Ok-made-clause-value : goal.returns-in-Ok-made-clause-value
returns-in-Ok-made-clause-value c = subst (λ (o : Option typed.Function). IfOk c.ended.result (λ r. option_map typed.function r ≡ o)) (made_is c) c.ended.ensures.value

pub returns-in-Ok-made-clause-behind : goal.returns-in-Ok-made-clause-behind
returns-in-Ok-made-clause-behind c =
    let s = c.args.scope.now in
    let facts = c.in-Ok-made.ensures.facts
    ∙ ap (λ (z : Scope). option_map (λ p. facts_of z.functions (typed.function p.0)) c.in-Ok-made.made) c.in-Ok.ensures.same
    ∙ with_facts (λ p. typed.function p.0) (facts_of s.functions) c.in-Ok-made.made
    ∙ ap (option_map (facts_of s.functions)) (made_is c) in
    subst (λ (z : Scope). OnOk c.ended.result (c.ended.new.scope ≡ z))
    (ap (λ (z : Scope). record z { functions = z.functions ++ option_map (λ p. p.1) c.in-Ok-made.made ∷ [] }) c.in-Ok.ensures.same ∙ ap (λ (o : Option Facts). record s { functions = s.functions ++ o ∷ [] }) facts)
    c.ended.ensures.behind
