use Rattle.std.proofs.Common.{◌≡◌, map, drop}
use Rattle.cse_logic_tree.specs.Typed as typed
use Rattle.cse_logic_names.specs.Uses as spec
use Rattle.cse_types.specs.Gather.{gather}
use Rattle.cse_types.proofs.facts.arguments.Given as goal

abbrev pub invariant-all : goal.invariant-all
invariant-all l =
    gather l.functions l.gathered (spec.uses_arguments (map typed.argument (drop l.x-index l.all.items))) ≡ gather l.functions l.initial.gathered (spec.uses_arguments (map typed.argument l.all.items))
