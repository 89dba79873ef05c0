use Rattle.std.proofs.Common.{◌≡◌, ◌∙◌, ap, sym, ◌<◌, ◌≤◌, get_or, length, map, refl, subst, List}
use Rattle.std.proofs.lemmas.List.{drop_all}
use Rattle.cse_lemmas.proofs.Lists.{drop_read}
use Rattle.cse_syntax_tree.specs.declared.tree.Declaration.{Declaration}
use Rattle.cse_syntax_tree.specs.Tree as syntax
use Rattle.cse_types.specs.JudgeTree.{behind, behind_all}
use Rattle.cse_types.specs.SourceFaults.{declarations_faults}
use Rattle.cse_types.proofs.DeclarationLaws.{behind_turn}
use Rattle.cse_types.proofs.FoundLaws.{declarations_turn}
use Rattle.cse_types.proofs.declared.all_declarations.Goals as goal
use Rattle.cse_logic_faults.proofs.Lists.{found_end}

pub all-preserved : goal.all-preserved
all-preserved c =
    let items = c.args.all.now.items in
    let x = c.x-item.result in
    let whole = c.deref-x-items.ensures.value in
    let lt : c.all.x-index < length items = subst (λ (xs : List Declaration). c.all.x-index < length xs) whole c.all-test.true in
    let is : x ≡ get_or items c.all.x-index x = subst (λ (xs : List Declaration). x ≡ get_or xs c.all.x-index x) whole c.x-item.is in
    let e = c.in_ok-behind.ensures in
    let own = e.behind ∙ ap (λ z. behind z (length c.all.told.items) (syntax.declaration x)) c.in_ok-one.ensures.same in
    record {
      found = declarations_turn c.args.counts.now _ _ x (drop_read items c.all.x-index x lt is) c.all.scope _ c.all.told.items _ _ _ _ c.all.invariant.found own e.told c.in_ok-one.ensures.found;
      behind = behind_turn items c.all.x-index x lt is c.all.scope _ _ c.all.told.items _ own e.told c.all.invariant.behind;
    }

pub returns-clause-found : goal.returns-clause-found
returns-clause-found c =
    let items = c.args.all.now.items in
    let le : length items ≤ c.all.x-index = subst (λ (xs : List Declaration). length xs ≤ c.all.x-index) c.deref-x-items.ensures.value c.all-test.false in
    found_end (λ (xs : List Declaration). declarations_faults c.args.counts.now c.all.scope (length c.all.told.items) (map syntax.declaration xs)) refl items c.all.x-index le _ _ c.all.invariant.found

pub returns-clause-behind : goal.returns-clause-behind
returns-clause-behind c =
    let items = c.args.all.now.items in
    let le : length items ≤ c.all.x-index = subst (λ (xs : List Declaration). length xs ≤ c.all.x-index) c.deref-x-items.ensures.value c.all-test.false in
    sym (ap (λ (xs : List Declaration). behind_all c.all.scope (length c.all.told.items) (map syntax.declaration xs)) (drop_all c.all.x-index items le)) ∙ c.all.invariant.behind
