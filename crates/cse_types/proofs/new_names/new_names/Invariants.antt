use Rattle.std.proofs.Common.{◌≡◌, ◌++◌, map, drop}
use Rattle.cse_syntax_tree.specs.Tree.{written}
use Rattle.cse_types.specs.NameFaults.{new_names_faults, and_names, kept_names}
use Rattle.cse_types.proofs.new_names.new_names.Given as goal

abbrev pub invariant-all : goal.invariant-all
invariant-all l = record {
  found : l.found ++ new_names_faults l.dictionary l.mine l.others (map written (drop l.x-index l.all.items)) ≡ l.initial.found ++ new_names_faults l.dictionary l.initial.mine l.others (map written l.all.items);
  mine : and_names l.mine (kept_names (map written (drop l.x-index l.all.items))) ≡ and_names l.initial.mine (kept_names (map written l.all.items));
}
