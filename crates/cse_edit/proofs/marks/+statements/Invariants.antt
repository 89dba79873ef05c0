use Rattle.std.proofs.Common.{◌≡◌, map, drop}
use Rattle.cse_logic_tree.specs.Typed as typed
use Rattle.cse_edit.specs.Items as spec
use Rattle.cse_edit.specs.Marks.{marked}
use Rattle.cse_edit.proofs.marks.+statements.Given as goal

abbrev pub invariant-block-all : goal.invariant-block-all
invariant-block-all l = marked l.marks (spec.written_by_all (typed.block (drop l.x-index l.all.items))) ≡ marked l.initial.marks (spec.written_by_all (typed.block l.all.items))

abbrev pub invariant-arms-all : goal.invariant-arms-all
invariant-arms-all l =
    marked l.marks (spec.written_by_arms (typed.arms (map typed.arm_tree (drop l.x-index l.all.items)) typed.no_arm)) ≡ marked l.initial.marks (spec.written_by_arms (typed.arms (map typed.arm_tree l.all.items) typed.no_arm))
