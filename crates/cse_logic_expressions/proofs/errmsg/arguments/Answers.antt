use Rattle.std.proofs.Common.{◌≡◌, sym, subst, map, ◌<◌, ◌≤◌, length, get_or, List}
use Rattle.cse_syntax_tree.specs.declared.tree.Expression.{Expression}
use Rattle.cse_logic_tree.specs.Typed.{argument}
use Rattle.cse_logic_expressions.proofs.Arguments.{arguments_step, arguments_end}
use Rattle.cse_logic_expressions.proofs.errmsg.arguments.Goals as goal

pub returns-then-is_sound : goal.returns-then-is_sound
returns-then-is_sound c =
    let items = c.args.values.now.items in
    let le : length items ≤ c.all.x-index = subst (λ (xs : List Expression). length xs ≤ c.all.x-index) c.deref-x-items.ensures.value c.all-test.false in
    let e = arguments_end c.args.scope.now items c.all.x-index c.all.is_sound (map argument c.all.found.items) _ _ le c.all.invariant in
    sym (e.0 c.if-is_sound.true)

pub returns : goal.returns
returns c =
    let items = c.args.values.now.items in
    let le : length items ≤ c.all.x-index = subst (λ (xs : List Expression). length xs ≤ c.all.x-index) c.deref-x-items.ensures.value c.all-test.false in
    let e = arguments_end c.args.scope.now items c.all.x-index c.all.is_sound (map argument c.all.found.items) _ _ le c.all.invariant in
    sym (e.1 c.if-is_sound.false)

pub all-preserved : goal.all-preserved
all-preserved c =
    let s = c.args.scope.now in
    let items = c.args.values.now.items in
    let x = c.x-item.result in
    let whole = c.deref-x-items.ensures.value in
    let lt : c.all.x-index < length items = subst (λ (xs : List Expression). c.all.x-index < length xs) whole c.all-test.true in
    let is : x ≡ get_or items c.all.x-index x = subst (λ (xs : List Expression). x ≡ get_or xs c.all.x-index x) whole c.x-item.is in
    arguments_step s items c.all.x-index x c.all.is_sound _ c.in_ok-is_there.is_there c.all.found.items _ c.in_ok-next.next _ _ _ c.next-kind.result lt is c.all.invariant c.next-kind.ensures.steps c.in_ok-next.ensures c.in_ok-is_there.ensures.found c.in_ok-is_there.ensures.there c.both_hold-is_sound.ensures
