use Rattle.std.proofs.Common.{◌≡◌, ◌++◌, map, drop}
use Rattle.cse_logic_tree.specs.Typed as typed
use Rattle.cse_types.specs.Told.{told_of}
use Rattle.cse_logic_names.specs.WellTyped.{entry_of}
use Rattle.cse_types.proofs.entries.entries.Given as goal

abbrev pub invariant-all : goal.invariant-all
invariant-all l = map typed.entry l.found.items ++ map (entry_of l.messages) (map told_of (drop l.x-index l.told.items)) ≡ map (entry_of l.messages) (map told_of l.told.items)
