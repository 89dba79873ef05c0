use Rattle.std.proofs.Common.{◌∙◌, sym, subst, ◌≤◌, length, List}
use Rattle.cse_logic_tree.specs.declared.tree.Dimension.{Dimension}
use Rattle.cse_logic_tree.specs.Typed.{dimension}
use Rattle.cse_logic_expressions.specs.Judge.{dimension_pick}
use Rattle.cse_logic_names.proofs.Walks.{at_end, walk_made}
use Rattle.cse_logic_expressions.proofs.deck.all_picks.Goals as goal

pub returns-then-is_sound : goal.returns-then-is_sound
returns-then-is_sound c =
    let s = c.args.scope.now in
    let le : length c.args.directions.now.items ≤ c.all.x-index = subst (λ (xs : List Dimension). length xs ≤ c.all.x-index) c.deref-x-items.ensures.value c.all-test.false in
    let e = at_end (λ x rest. dimension_pick s (dimension x)) c.args.directions.now.items c.all.x-index c.all.is_sound c.all.found.items _ le c.all.invariant in
    sym (walk_made (λ d. dimension_pick s d) dimension c.args.directions.now.items ∙ e.0 c.if-is_sound.true)

pub returns-else-is_sound : goal.returns-else-is_sound
returns-else-is_sound c =
    let s = c.args.scope.now in
    let le : length c.args.directions.now.items ≤ c.all.x-index = subst (λ (xs : List Dimension). length xs ≤ c.all.x-index) c.deref-x-items.ensures.value c.all-test.false in
    let e = at_end (λ x rest. dimension_pick s (dimension x)) c.args.directions.now.items c.all.x-index c.all.is_sound c.all.found.items _ le c.all.invariant in
    sym (walk_made (λ d. dimension_pick s d) dimension c.args.directions.now.items ∙ e.1 c.if-is_sound.false)
