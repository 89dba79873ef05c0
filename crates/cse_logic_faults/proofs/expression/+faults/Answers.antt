use Rattle.std.proofs.Common.{◌≡◌, ◌∙◌, ap, sym, ◌<◌, ◌≤◌, length, get_or, map, subst, List, ◌++◌}
use Rattle.std.specs.Prelude.{false}
use Rattle.cse_syntax_tree.specs.declared.tree.Expression.{Expression}
use Rattle.cse_syntax_tree.specs.declared.tree.ExpressionKind.{ExpressionKind}
use Rattle.cse_syntax_tree.specs.declared.tree.Operation.{Operation}
use Rattle.cse_syntax_tree.specs.Tree.{written, expr, expr_kind, exprs, operations, operation_tree}
use Rattle.cse_logic_names.specs.Scope.{meant}
use Rattle.cse_logic_faults.specs.FaultsOfExpressions.{expr_faults, number_faults, numbers_faults, operations_faults, indexed_faults}
use Rattle.cse_logic_faults.proofs.Lists.{behind, turn, found_end}
use Rattle.cse_logic_faults.proofs.Nodes.{indexed_found, chain_found, numbers_more, numbers_none, operations_turn, operations_end}
use Rattle.cse_logic_faults.proofs.expression.+faults.Goals as goal

pub numbers-all-preserved : goal.numbers-all-preserved
numbers-all-preserved t c =
    let items = c.args.all.now.items in
    let x = c.x-item.result in
    let whole = c.deref-x-items.ensures.value in
    let lt : c.all.x-index < length items = subst (λ (xs : List Expression). c.all.x-index < length xs) whole c.all-test.true in
    let is : x ≡ get_or items c.all.x-index x = subst (λ (xs : List Expression). x ≡ get_or xs c.all.x-index x) whole c.x-item.is in
    turn (λ (y : Expression). number_faults c.args.counts.now c.args.scope.now false (expr y)) (λ (ys : List Expression). numbers_faults c.args.counts.now c.args.scope.now (exprs (map expr ys)))
    (numbers_more c.args.counts.now c.args.scope.now) items c.all.x-index x lt is _ _ _ c.all.invariant c.in_ok-number.ensures

pub numbers-returns : goal.numbers-returns
numbers-returns t c =
    let items = c.args.all.now.items in
    let le : length items ≤ c.all.x-index = subst (λ (xs : List Expression). length xs ≤ c.all.x-index) c.deref-x-items.ensures.value c.all-test.false in
    found_end (λ (ys : List Expression). numbers_faults c.args.counts.now c.args.scope.now (exprs (map expr ys))) (numbers_none c.args.counts.now c.args.scope.now) items c.all.x-index le _ _ c.all.invariant

pub operations_in-all-preserved : goal.operations_in-all-preserved
operations_in-all-preserved t c =
    let items = c.args.all.now.items in
    let x = c.x-item.result in
    let whole = c.deref-x-items.ensures.value in
    let lt : c.all.x-index < length items = subst (λ (xs : List Operation). c.all.x-index < length xs) whole c.all-test.true in
    let is : x ≡ get_or items c.all.x-index x = subst (λ (xs : List Operation). x ≡ get_or xs c.all.x-index x) whole c.x-item.is in
    let both = operations_turn c.args.counts.now c.args.scope.now c.args.top items c.all.x-index x lt is c.all.found c.operation.new.found _ c.all.left c.saturating_sub-left.result c.all.invariant.found c.all.invariant.left c.saturating_sub-left.ensures c.in_ok-operation.ensures in
    record { found = both.0; left = both.1 }

pub operations_in-returns : goal.operations_in-returns
operations_in-returns t c =
    let items = c.args.all.now.items in
    let le : length items ≤ c.all.x-index = subst (λ (xs : List Operation). length xs ≤ c.all.x-index) c.deref-x-items.ensures.value c.all-test.false in
    found_end (λ (ys : List Operation). operations_faults c.args.counts.now c.args.scope.now c.args.top (operations (map operation_tree ys))) (operations_end c.args.counts.now c.args.scope.now c.args.top) items c.all.x-index le _ _ c.all.invariant.found

pub expression-returns-in_ok-numbers-in-Indexed : goal.expression-returns-in_ok-numbers-in-Indexed
expression-returns-in_ok-numbers-in-Indexed t c =
    let cs = c.args.counts.now in
    let s = c.args.scope.now in
    let g = c.args.found.now in
    let name = c.in-Indexed.name in
    let all = numbers_faults cs s (exprs (map expr c.in-Indexed.arguments.items)) in
    let own = indexed_faults cs s name.token (length c.in-Indexed.arguments.items) (meant s (written name)) in
    let same = ap (λ (x : ExpressionKind). g ++ expr_faults cs s c.args.top (expr_kind x)) (sym c.deref.ensures ∙ c.in-Indexed.is)
    ∙ ap (λ l. g ++ l) (indexed_found cs s c.args.top name c.in-Indexed.arguments)
    ∙ behind g all own
    ∙ ap (λ z. z ++ own) (sym c.in_ok-numbers-in-Indexed.ensures)
    ∙ ap (λ n. c.numbers.new.found ++ indexed_faults cs s name.token n (meant s (written name))) (sym (c.len.ensures ∙ c.in-Indexed.arguments.ok.0)) in
    rw same c.indexed.ensures

pub expression-returns-in_ok-number-in-Chain : goal.expression-returns-in_ok-number-in-Chain
expression-returns-in_ok-number-in-Chain t c =
    let cs = c.args.counts.now in
    let s = c.args.scope.now in
    let g = c.args.found.now in
    let others = operations_faults cs s c.args.top (operations (map operation_tree c.in-Chain.others.items)) in
    let same = ap (λ (x : ExpressionKind). g ++ expr_faults cs s c.args.top (expr_kind x)) (sym c.deref.ensures ∙ c.in-Chain.is)
    ∙ ap (λ l. g ++ l) (chain_found cs s c.args.top c.in-Chain.first c.in-Chain.others)
    ∙ behind g _ others
    ∙ ap (λ z. z ++ others) (sym c.in_ok-number-in-Chain.ensures) in
    rw same c.operations_in.ensures
