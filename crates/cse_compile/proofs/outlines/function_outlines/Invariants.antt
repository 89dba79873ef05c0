use Rattle.std.proofs.Common.{◌≡◌, ◌++◌, [], drop, map}
use Rattle.cse_logic_tree.specs.Typed.{declaration}
use Rattle.cse_compile.specs.Outline.{outline, functions_in}
use Rattle.cse_compile.proofs.outlines.function_outlines.Given as goal

abbrev pub invariant-all : goal.invariant-all
invariant-all l = map outline l.outlines.items ++ functions_in (map declaration (drop l.written-index l.declarations)) ≡ functions_in (map declaration l.declarations)
