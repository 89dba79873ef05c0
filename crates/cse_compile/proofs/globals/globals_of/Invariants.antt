use Rattle.std.proofs.Common.{◌≡◌, ◌++◌, [], drop, map}
use Rattle.cse_logic_tree.specs.Typed.{declaration}
use Rattle.cse_compile.specs.Tables.{globals_in}
use Rattle.cse_compile.proofs.globals.globals_of.Given as goal

abbrev pub invariant-all : goal.invariant-all
invariant-all l = l.globals.items ++ globals_in (map declaration (drop l.declared-index l.declarations)) ≡ globals_in (map declaration l.declarations)
