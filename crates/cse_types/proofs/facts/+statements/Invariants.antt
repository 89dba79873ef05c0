use Rattle.std.proofs.Common.{◌≡◌, map, drop}
use Rattle.cse_logic_tree.specs.Typed as typed
use Rattle.cse_logic_names.specs.Uses as spec
use Rattle.cse_types.specs.Gather.{gather}
use Rattle.cse_types.proofs.facts.+statements.Given as goal

abbrev pub invariant-block-all : goal.invariant-block-all
invariant-block-all l =
    gather l.functions l.gathered (spec.uses_block (typed.block (drop l.x-index l.all.items))) ≡ gather l.functions l.initial.gathered (spec.uses_block (typed.block l.all.items))

abbrev pub invariant-arms-all : goal.invariant-arms-all
invariant-arms-all l =
    gather l.functions l.gathered (spec.uses_arms (typed.arms (map typed.arm_tree (drop l.x-index l.all.items)) typed.no_arm)) ≡ gather l.functions l.initial.gathered (spec.uses_arms (typed.arms (map typed.arm_tree l.all.items) typed.no_arm))
