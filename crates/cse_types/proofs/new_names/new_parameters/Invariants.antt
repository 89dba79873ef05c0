use Rattle.std.proofs.Common.{◌≡◌, ◌++◌, [], map, drop}
use Rattle.cse_syntax_tree.specs.Tree as syntax
use Rattle.cse_types.specs.NameFaults.{new_names_faults, and_names, kept_names, spelled}
use Rattle.cse_types.proofs.new_names.new_parameters.Given as goal

abbrev pub invariant-all : goal.invariant-all
invariant-all l = record {
  found : l.found ++ new_names_faults l.dictionary l.own l.names (spelled (map syntax.parameter (drop l.x-index l.all.items))) ≡ l.initial.found ++ new_names_faults l.dictionary [] l.names (spelled (map syntax.parameter l.all.items));
  parameters : and_names l.parameters (kept_names (spelled (map syntax.parameter (drop l.x-index l.all.items)))) ≡ and_names l.initial.parameters (kept_names (spelled (map syntax.parameter l.all.items)));
}
