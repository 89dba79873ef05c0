use Rattle.std.proofs.Common.{◌≡◌, ◌<◌, ◌≤◌, get_or, length, subst, List}
use Rattle.cse_lemmas.proofs.Lists.{drop_read}
use Rattle.cse_syntax_tree.specs.declared.tree.Declaration.{Declaration}
use Rattle.cse_types.proofs.PartFoundLaws.{counts_turn, counts_end}
use Rattle.cse_types.proofs.counted_parts.counts_in.Goals as goal

pub all-preserved : goal.all-preserved
all-preserved c =
    let items = c.args.all.now.items in
    let x = c.x-item.result in
    let whole = c.deref-x-items.ensures.value in
    let lt : c.all.x-index < length items = subst (λ (xs : List Declaration). c.all.x-index < length xs) whole c.all-test.true in
    let is : x ≡ get_or items c.all.x-index x = subst (λ (xs : List Declaration). x ≡ get_or xs c.all.x-index x) whole c.x-item.is in
    counts_turn _ _ x (drop_read items c.all.x-index x lt is) _ _ _ c.all.invariant c.in_ok-count.ensures

pub returns : goal.returns
returns c =
    let items = c.args.all.now.items in
    let le : length items ≤ c.all.x-index = subst (λ (xs : List Declaration). length xs ≤ c.all.x-index) c.deref-x-items.ensures.value c.all-test.false in
    counts_end items c.all.x-index le _ _ c.all.invariant
