use Rattle.std.proofs.Common.{◌≡◌, ◌∙◌, subst, ◌<◌, ◌≤◌, length, get_or, List}
use Rattle.cse_syntax_tree.specs.declared.tree.Declaration.{Declaration}
use Rattle.cse_types.specs.Table.{no_table}
use Rattle.cse_types.proofs.FreshLaws.{after_turn, after_end}
use Rattle.cse_types.proofs.TableLaws.{with_parsed, parsed_after}
use Rattle.cse_types.proofs.table.table_of.Goals as goal

pub all-preserved : goal.all-preserved
all-preserved c =
    let items = c.args.all.now.items in
    let x = c.x-item.result in
    let whole = c.deref-x-items.ensures.value in
    let lt : c.all.x-index < length items = subst (λ (xs : List Declaration). c.all.x-index < length xs) whole c.all-test.true in
    let is : x ≡ get_or items c.all.x-index x = subst (λ (xs : List Declaration). x ≡ get_or xs c.all.x-index x) whole c.x-item.is in
    let e = c.in_ok-declaration.ensures in
    after_turn (with_parsed c.args.dictionary.now) items c.all.x-index x lt is c.all.table c.declaration.new.table _ c.all.invariant e

pub returns : goal.returns
returns c =
    let items = c.args.all.now.items in
    let le : length items ≤ c.all.x-index = subst (λ (xs : List Declaration). length xs ≤ c.all.x-index) c.deref-x-items.ensures.value c.all-test.false in
    after_end (with_parsed c.args.dictionary.now) items c.all.x-index le c.all.table _ c.all.invariant ∙ parsed_after c.args.dictionary.now no_table items
