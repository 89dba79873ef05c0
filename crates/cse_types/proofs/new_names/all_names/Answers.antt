use Rattle.std.proofs.Common.{◌≡◌, ◌<◌, ◌≤◌, get_or, length, map, refl, subst, List}
use Rattle.cse_lemmas.proofs.Lists.{drop_read}
use Rattle.cse_syntax_tree.specs.declared.tree.Declaration.{Declaration}
use Rattle.cse_syntax_tree.specs.Tree as syntax
use Rattle.cse_types.specs.NameFaults.{names_faults}
use Rattle.cse_types.proofs.FoundNames.{declared_turn}
use Rattle.cse_types.proofs.new_names.all_names.Goals as goal
use Rattle.cse_logic_faults.proofs.Lists.{found_end}

pub all-preserved : goal.all-preserved
all-preserved c =
    let items = c.args.all.now.items in
    let x = c.x-item.result in
    let whole = c.deref-x-items.ensures.value in
    let lt : c.all.x-index < length items = subst (λ (xs : List Declaration). c.all.x-index < length xs) whole c.all-test.true in
    let is : x ≡ get_or items c.all.x-index x = subst (λ (xs : List Declaration). x ≡ get_or xs c.all.x-index x) whole c.x-item.is in
    let e = c.in_ok-declared.ensures in
    declared_turn c.args.dictionary.now _ _ x (drop_read items c.all.x-index x lt is) _ _ _ _ _ _ _ c.all.invariant e.names e.parameters e.found

pub returns : goal.returns
returns c =
    let items = c.args.all.now.items in
    let le : length items ≤ c.all.x-index = subst (λ (xs : List Declaration). length xs ≤ c.all.x-index) c.deref-x-items.ensures.value c.all-test.false in
    found_end (λ (xs : List Declaration). names_faults c.args.dictionary.now c.all.names c.all.parameters (map syntax.declaration xs)) refl items c.all.x-index le _ _ c.all.invariant
