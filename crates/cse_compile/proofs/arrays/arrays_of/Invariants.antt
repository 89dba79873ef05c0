use Rattle.std.proofs.Common.{◌≡◌, ◌++◌, [], drop, map}
use Rattle.cse_image_parts.specs.Image.{array_lists}
use Rattle.cse_logic_tree.specs.Typed.{declaration}
use Rattle.cse_compile.specs.Tables.{arrays_in}
use Rattle.cse_compile.proofs.arrays.arrays_of.Given as goal

abbrev pub invariant-all : goal.invariant-all
invariant-all l = map array_lists l.arrays.items ++ arrays_in (map declaration (drop l.written-index l.declarations)) ≡ arrays_in (map declaration l.declarations)
