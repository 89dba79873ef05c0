use Rattle.std.proofs.Common.{◌≡◌, map, drop, List}
use Rattle.cse_syntax_tree.specs.declared.tree.Dimension.{Dimension}
use Rattle.cse_syntax_tree.specs.Tree as syntax
use Rattle.cse_logic_tree.specs.Typed as typed
use Rattle.cse_types.specs.JudgeTree as spec
use Rattle.cse_logic_names.specs.Walk.{walk, so_far}
use Rattle.cse_types.proofs.array.dimensions.Given as goal

abbrev pub invariant-all : goal.invariant-all
invariant-all l = so_far l.is_sound (map typed.dimension l.found.items) (walk (λ (x : Dimension) (rest : List Dimension). spec.dimension_judged l.scope (syntax.dimension x)) (drop l.x-index l.all.items)) ≡ walk (λ (x : Dimension) (rest : List Dimension). spec.dimension_judged l.scope (syntax.dimension x)) l.all.items
