use Rattle.std.proofs.Common.{◌≡◌, ap, ◌∙◌, sym, subst, ◌<◌, ◌≤◌, ◌+◌, ◌++◌, length, get_or, map, List}
use Rattle.std.specs.Prelude.{◌||◌, not}
use Rattle.std.proofs.lemmas.List.{append-nil, drop_all}
use Rattle.cse_syntax_tree.specs.declared.tree.Declaration.{Declaration}
use Rattle.cse_syntax_tree.specs.Tree as syntax
use Rattle.cse_logic_tree.specs.Typed as typed
use Rattle.cse_logic_names.specs.WellTyped.{declared_messages}
use Rattle.cse_types.specs.JudgeTree as spec
use Rattle.cse_types.specs.Told.{told_of}
use Rattle.cse_logic_names.specs.Walk.{is_there}
use Rattle.cse_types.proofs.MadeLaws.{made_turn, made_end}
use Rattle.cse_types.proofs.DeclarationLaws.{declarations_head, behind_turn, told_turn}
use Rattle.cse_types.proofs.declaration.declarations.Goals as goal

pub all-preserved : goal.all-preserved
all-preserved c =
    let items = c.args.all.now.items in
    let x = c.x-item.result in
    let whole = c.deref-x-items.ensures.value in
    let lt : c.all.x-index < length items = subst (λ (xs : List Declaration). c.all.x-index < length xs) whole c.all-test.true in
    let is : x ≡ get_or items c.all.x-index x = subst (λ (xs : List Declaration). x ≡ get_or xs c.all.x-index x) whole c.x-item.is in
    let e = c.in_ok-next.ensures in
    record {
      value = made_turn typed.declaration c.all.is_sound _ c.in_ok-is_there.is_there c.all.found.items _ c.in_ok-next.next _ _ _ _ c.all.invariant.value
          (declarations_head items c.all.x-index x lt is c.all.scope _ c.all.told.items _ e.behind e.told) e.value c.in_ok-is_there.ensures.found c.in_ok-is_there.ensures.there c.both_hold-is_sound.ensures;
      behind = behind_turn items c.all.x-index x lt is c.all.scope _ _ c.all.told.items _ e.behind e.told c.all.invariant.behind;
      told = told_turn items c.all.x-index x lt is c.all.told.items _ _ e.told c.all.invariant.told;
    }

pub returns-then-is_sound-clause-value : goal.returns-then-is_sound-clause-value
returns-then-is_sound-clause-value c =
    let items = c.args.all.now.items in
    let le : length items ≤ c.all.x-index = subst (λ (xs : List Declaration). length xs ≤ c.all.x-index) c.deref-x-items.ensures.value c.all-test.false in
    let none = ap (map syntax.declaration) (drop_all c.all.x-index items le) in
    let n = length c.all.told.items in
    let e = made_end typed.declaration c.all.is_sound c.all.found.items _ _ (ap (spec.declarations_judged c.all.scope n) none) c.all.invariant.value in
    sym (e.0 c.if-is_sound.true)

pub returns-then-is_sound-clause-told : goal.returns-then-is_sound-clause-told
returns-then-is_sound-clause-told c =
    let items = c.args.all.now.items in
    let le : length items ≤ c.all.x-index = subst (λ (xs : List Declaration). length xs ≤ c.all.x-index) c.deref-x-items.ensures.value c.all-test.false in
    let none = ap (map syntax.declaration) (drop_all c.all.x-index items le) in
    let n = length c.all.told.items in
    sym (append-nil (map told_of c.all.told.items)) ∙ ap (λ ds. map told_of c.all.told.items ++ declared_messages ds) (sym none) ∙ c.all.invariant.told

pub returns-then-is_sound-clause-behind : goal.returns-then-is_sound-clause-behind
returns-then-is_sound-clause-behind c =
    let items = c.args.all.now.items in
    let le : length items ≤ c.all.x-index = subst (λ (xs : List Declaration). length xs ≤ c.all.x-index) c.deref-x-items.ensures.value c.all-test.false in
    let none = ap (map syntax.declaration) (drop_all c.all.x-index items le) in
    let n = length c.all.told.items in
    sym (ap (spec.behind_all c.all.scope n) none) ∙ c.all.invariant.behind

pub returns-clause-value : goal.returns-clause-value
returns-clause-value c =
    let items = c.args.all.now.items in
    let le : length items ≤ c.all.x-index = subst (λ (xs : List Declaration). length xs ≤ c.all.x-index) c.deref-x-items.ensures.value c.all-test.false in
    let none = ap (map syntax.declaration) (drop_all c.all.x-index items le) in
    let n = length c.all.told.items in
    let e = made_end typed.declaration c.all.is_sound c.all.found.items _ _ (ap (spec.declarations_judged c.all.scope n) none) c.all.invariant.value in
    sym (e.1 c.if-is_sound.false)

pub returns-clause-told : goal.returns-clause-told
returns-clause-told c =
    let items = c.args.all.now.items in
    let le : length items ≤ c.all.x-index = subst (λ (xs : List Declaration). length xs ≤ c.all.x-index) c.deref-x-items.ensures.value c.all-test.false in
    let none = ap (map syntax.declaration) (drop_all c.all.x-index items le) in
    let n = length c.all.told.items in
    sym (append-nil (map told_of c.all.told.items)) ∙ ap (λ ds. map told_of c.all.told.items ++ declared_messages ds) (sym none) ∙ c.all.invariant.told

pub returns-clause-behind : goal.returns-clause-behind
returns-clause-behind c =
    let items = c.args.all.now.items in
    let le : length items ≤ c.all.x-index = subst (λ (xs : List Declaration). length xs ≤ c.all.x-index) c.deref-x-items.ensures.value c.all-test.false in
    let none = ap (map syntax.declaration) (drop_all c.all.x-index items le) in
    let n = length c.all.told.items in
    sym (ap (spec.behind_all c.all.scope n) none) ∙ c.all.invariant.behind
