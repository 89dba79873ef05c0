use Rattle.std.proofs.Common.{◌≡◌, map, drop}
use Rattle.cse_logic_tree.specs.Typed as typed
use Rattle.cse_logic_names.specs.Uses as spec
use Rattle.cse_types.specs.Gather.{gather}
use Rattle.cse_types.proofs.facts.+gather.Given as goal

abbrev pub invariant-numbers-all : goal.invariant-numbers-all
invariant-numbers-all l =
    gather l.functions l.gathered (spec.uses_all (typed.numbers (map typed.number (drop l.x-index l.all.items)))) ≡ gather l.functions l.initial.gathered (spec.uses_all (typed.numbers (map typed.number l.all.items)))

abbrev pub invariant-operations-all : goal.invariant-operations-all
invariant-operations-all l =
    gather l.functions l.gathered (spec.uses_operations (typed.operations (map typed.operation_tree (drop l.x-index l.all.items)))) ≡ gather l.functions l.initial.gathered (spec.uses_operations (typed.operations (map typed.operation_tree l.all.items)))
