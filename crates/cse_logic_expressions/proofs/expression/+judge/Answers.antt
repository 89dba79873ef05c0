use Rattle.std.proofs.Common.{◌≡◌, ap, ◌∙◌, sym, subst, map, ◌+◌, ◌<◌, ◌≤◌, length, get_or, List}
use Rattle.std.specs.Prelude.{false, Option, IfOk, option_map}
use Rattle.cse_syntax_tree.specs.declared.tree.Expression.{Expression}
use Rattle.cse_syntax_tree.specs.declared.tree.Operation.{Operation}
use Rattle.cse_syntax_tree.specs.Tree as syntax
use Rattle.cse_syntax_tree.specs.Tree.{expr, expr_kind}
use Rattle.cse_logic_tree.specs.Typed as typed
use Rattle.cse_logic_tree.specs.Typed.{Number, number}
use Rattle.cse_logic_expressions.specs.Judge.{AsNumber, judged, judge, as_number, judge_operation, judge_operations}
use Rattle.cse_logic_names.specs.Walk.{joined}
use Rattle.cse_logic_names.proofs.Walks.{step_made, at_end, is_none, none_left, step_left}
use Rattle.cse_logic_expressions.proofs.Expressions.{indexed_judged, chain_judged, values_walked, operations_walked}
use Rattle.cse_logic_expressions.proofs.expression.+judge.Goals as goal

pub expression-returns-in-Indexed : goal.expression-returns-in-Indexed
expression-returns-in-Indexed t c =
    let same = ap (λ x. judge c.args.scope.now c.args.top (expr_kind x)) (sym c.deref.ensures ∙ c.in-Indexed.is) ∙ indexed_judged c.args.scope.now c.args.top c.in-Indexed.name c.in-Indexed.arguments in
    rw same c.indexed.ensures

pub expression-returns-in_ok-start-in-Chain : goal.expression-returns-in_ok-start-in-Chain
expression-returns-in_ok-start-in-Chain t c =
    let s = c.args.scope.now in
    let others = judge_operations s c.args.top (syntax.operations (map syntax.operation_tree c.in-Chain.others.items)) in
    let same = ap (λ x. judge s c.args.top (expr_kind x)) (sym c.deref.ensures ∙ c.in-Chain.is) ∙ chain_judged s c.args.top c.in-Chain.first c.in-Chain.others in
    rw same (subst (λ (y : Option Number). IfOk c.chain.result (λ r. judged r ≡ AsNumber (joined typed.Chain y others))) c.in_ok-start-in-Chain.ensures c.chain.ensures)

pub all_values-returns-then-is_sound : goal.all_values-returns-then-is_sound
all_values-returns-then-is_sound t c =
    let s = c.args.scope.now in
    let items = c.args.inner.now.items in
    let le : length items ≤ c.all.x-index = subst (λ (xs : List Expression). length xs ≤ c.all.x-index) c.deref-x-items.ensures.value c.all-test.false in
    let e = at_end (λ x rest. as_number (judge s false (expr x))) items c.all.x-index c.all.is_sound (map number c.all.found.items) _ le c.all.invariant in
    sym (values_walked s items ∙ ap (option_map typed.numbers) (e.0 c.if-is_sound.true))

pub all_values-returns : goal.all_values-returns
all_values-returns t c =
    let s = c.args.scope.now in
    let items = c.args.inner.now.items in
    let le : length items ≤ c.all.x-index = subst (λ (xs : List Expression). length xs ≤ c.all.x-index) c.deref-x-items.ensures.value c.all-test.false in
    let e = at_end (λ x rest. as_number (judge s false (expr x))) items c.all.x-index c.all.is_sound (map number c.all.found.items) _ le c.all.invariant in
    sym (values_walked s items ∙ ap (option_map typed.numbers) (e.1 c.if-is_sound.false))

pub all_values-all-preserved : goal.all_values-all-preserved
all_values-all-preserved t c =
    let s = c.args.scope.now in
    let items = c.args.inner.now.items in
    let x = c.x-item.result in
    let whole = c.deref-x-items.ensures.value in
    let lt : c.all.x-index < length items = subst (λ (xs : List Expression). c.all.x-index < length xs) whole c.all-test.true in
    let is : x ≡ get_or items c.all.x-index x = subst (λ (xs : List Expression). x ≡ get_or xs c.all.x-index x) whole c.x-item.is in
    step_made (λ (x : Expression) (rest : List Expression). as_number (judge s false (expr x))) number items c.all.x-index x c.all.is_sound _ c.in_ok-is_there.is_there c.all.found.items _ c.in_ok-next.next _ lt is c.all.invariant c.in_ok-next.ensures c.in_ok-is_there.ensures.found c.in_ok-is_there.ensures.there c.both_hold-is_sound.ensures

pub all_operations-returns-then-is_sound : goal.all_operations-returns-then-is_sound
all_operations-returns-then-is_sound t c =
    let s = c.args.scope.now in
    let items = c.args.others.now.items in
    let le : length items ≤ c.all.x-index = subst (λ (xs : List Operation). length xs ≤ c.all.x-index) c.deref-x-items.ensures.value c.all-test.false in
    let e = at_end (λ x rest. judge_operation s c.args.top (syntax.operation_tree x) (is_none rest)) items c.all.x-index c.all.is_sound (map typed.operation_tree c.all.found.items) _ le c.all.invariant.value in
    sym (operations_walked s c.args.top items ∙ ap (option_map typed.operations) (e.0 c.if-is_sound.true))

pub all_operations-returns : goal.all_operations-returns
all_operations-returns t c =
    let s = c.args.scope.now in
    let items = c.args.others.now.items in
    let le : length items ≤ c.all.x-index = subst (λ (xs : List Operation). length xs ≤ c.all.x-index) c.deref-x-items.ensures.value c.all-test.false in
    let e = at_end (λ x rest. judge_operation s c.args.top (syntax.operation_tree x) (is_none rest)) items c.all.x-index c.all.is_sound (map typed.operation_tree c.all.found.items) _ le c.all.invariant.value in
    sym (operations_walked s c.args.top items ∙ ap (option_map typed.operations) (e.1 c.if-is_sound.false))

pub all_operations-all-preserved : goal.all_operations-all-preserved
all_operations-all-preserved t c =
    let s = c.args.scope.now in
    let items = c.args.others.now.items in
    let x = c.x-item.result in
    let whole = c.deref-x-items.ensures.value in
    let lt : c.all.x-index < length items = subst (λ (xs : List Operation). c.all.x-index < length xs) whole c.all-test.true in
    let is : x ≡ get_or items c.all.x-index x = subst (λ (xs : List Operation). x ≡ get_or xs c.all.x-index x) whole c.x-item.is in
    let left = step_left _ _ c.all.x-index (length items) c.decremented-left.ensures c.all.invariant.left lt in
    let none = none_left items (c.all.x-index + 1) _ left in
    let v = c.in_ok-next.ensures ∙ ap (λ b. judge_operation s c.args.top (syntax.operation_tree x) b) none in
    record {
      value = step_made (λ (x : Operation) (rest : List Operation). judge_operation s c.args.top (syntax.operation_tree x) (is_none rest)) typed.operation_tree items c.all.x-index x c.all.is_sound _ c.in_ok-is_there.is_there c.all.found.items _ c.in_ok-next.next _ lt is c.all.invariant.value v c.in_ok-is_there.ensures.found c.in_ok-is_there.ensures.there c.both_hold-is_sound.ensures;
      left = left;
    }
