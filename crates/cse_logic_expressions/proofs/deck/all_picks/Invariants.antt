use Rattle.std.proofs.Common.{◌≡◌, drop}
use Rattle.cse_logic_tree.specs.Typed.{dimension}
use Rattle.cse_logic_expressions.specs.Judge.{dimension_pick}
use Rattle.cse_logic_names.specs.Walk.{walk, so_far}
use Rattle.cse_logic_expressions.proofs.deck.all_picks.Given as goal

abbrev pub invariant-all : goal.invariant-all
invariant-all l = so_far l.is_sound l.found.items (walk (λ x rest. dimension_pick l.scope (dimension x)) (drop l.x-index l.directions.items)) ≡ walk (λ x rest. dimension_pick l.scope (dimension x)) l.directions.items
