use Rattle.std.proofs.Common.{◌≡◌, ◌++◌, map, drop}
use Rattle.std.specs.Option.{option_map}
use Rattle.cse_syntax_tree.specs.Tree as syntax
use Rattle.cse_logic_tree.specs.Typed as typed
use Rattle.cse_types.specs.JudgeTree as spec
use Rattle.cse_types.proofs.arrays.arrays.Given as goal

abbrev pub invariant-all : goal.invariant-all
invariant-all l = map (option_map (λ v. map typed.dimension v.items)) l.found.items ++ spec.arrays_judged l.scope (map syntax.declaration (drop l.x-index l.all.items)) ≡ spec.arrays_judged l.scope (map syntax.declaration l.all.items)
