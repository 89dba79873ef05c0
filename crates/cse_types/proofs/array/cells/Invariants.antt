use Rattle.std.proofs.Common.{◌≡◌, map, drop, List}
use Rattle.cse_syntax_tree.specs.declared.tree.Literal.{Literal}
use Rattle.cse_logic_expressions.specs.JudgeStatement.{whole_judged}
use Rattle.cse_syntax_tree.specs.Tree as syntax
use Rattle.cse_logic_tree.specs.Typed as typed
use Rattle.cse_types.specs.JudgeTree as spec
use Rattle.cse_logic_names.specs.Walk.{walk, so_far}
use Rattle.cse_types.proofs.array.cells.Given as goal

abbrev pub invariant-all : goal.invariant-all
invariant-all l = so_far l.is_sound (map typed.whole l.found.items) (walk (λ (x : Literal) (rest : List Literal). whole_judged (syntax.literal x)) (drop l.x-index l.all.items)) ≡ walk (λ (x : Literal) (rest : List Literal). whole_judged (syntax.literal x)) l.all.items
