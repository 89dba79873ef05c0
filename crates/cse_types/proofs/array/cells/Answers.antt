use Rattle.std.proofs.Common.{◌∙◌, sym, subst, ◌≤◌, length, map, List}
use Rattle.cse_syntax_tree.specs.declared.tree.Literal.{Literal}
use Rattle.cse_logic_expressions.specs.JudgeStatement.{whole_judged}
use Rattle.cse_syntax_tree.specs.Tree as syntax
use Rattle.cse_logic_tree.specs.Typed as typed
use Rattle.cse_types.specs.JudgeTree as spec
use Rattle.cse_logic_names.proofs.Walks.{at_end, walk_made}
use Rattle.cse_types.proofs.ArrayLaws.{made_turn}
use Rattle.cse_types.proofs.array.cells.Goals as goal

pub returns-then-is_sound : goal.returns-then-is_sound
returns-then-is_sound c =
    let items = c.args.all.now.items in
    let le : length items ≤ c.all.x-index = subst (λ (xs : List Literal). length xs ≤ c.all.x-index) c.deref-x-items.ensures.value c.all-test.false in
    let e = at_end (λ (x : Literal) (rest : List Literal). whole_judged (syntax.literal x)) items c.all.x-index c.all.is_sound (map typed.whole c.all.found.items) _ le c.all.invariant in
    sym (walk_made (λ c. whole_judged c) syntax.literal items ∙ e.0 c.if-is_sound.true)

pub returns : goal.returns
returns c =
    let items = c.args.all.now.items in
    let le : length items ≤ c.all.x-index = subst (λ (xs : List Literal). length xs ≤ c.all.x-index) c.deref-x-items.ensures.value c.all-test.false in
    let e = at_end (λ (x : Literal) (rest : List Literal). whole_judged (syntax.literal x)) items c.all.x-index c.all.is_sound (map typed.whole c.all.found.items) _ le c.all.invariant in
    sym (walk_made (λ c. whole_judged c) syntax.literal items ∙ e.1 c.if-is_sound.false)

pub all-preserved : goal.all-preserved
all-preserved c =
    made_turn (λ (y : Literal). whole_judged (syntax.literal y)) typed.whole c.deref-x-items.result.now c.args.all.now.items c.deref-x-items.ensures.value c.all.x-index _ c.all-test.true c.all.is_sound _ c.in_ok-is_there.is_there c.all.found.items _ c.cell-next.result _
    c.all.invariant c.cell-next.ensures c.in_ok-is_there.ensures.found c.in_ok-is_there.ensures.there c.both_hold-is_sound.ensures
