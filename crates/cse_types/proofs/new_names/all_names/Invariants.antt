use Rattle.std.proofs.Common.{◌≡◌, ◌++◌, [], map, drop}
use Rattle.cse_syntax_tree.specs.Tree as syntax
use Rattle.cse_types.specs.NameFaults.{names_faults}
use Rattle.cse_types.proofs.new_names.all_names.Given as goal

abbrev pub invariant-all : goal.invariant-all
invariant-all l =
    l.found ++ names_faults l.dictionary l.names l.parameters (map syntax.declaration (drop l.x-index l.all.items)) ≡ l.initial.found ++ names_faults l.dictionary [] [] (map syntax.declaration l.all.items)
