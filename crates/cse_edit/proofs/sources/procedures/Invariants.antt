use Rattle.std.proofs.Common.{◌≡◌, map, drop}
use Rattle.cse_logic_tree.specs.Typed as typed
use Rattle.cse_edit.specs.Items as spec
use Rattle.cse_edit.specs.Marks.{marked}
use Rattle.cse_edit.proofs.sources.procedures.Given as goal

abbrev pub invariant-all : goal.invariant-all
invariant-all l = marked l.marks (spec.written_by_procedures (map typed.procedure (drop l.x-index l.all))) ≡ marked l.initial.marks (spec.written_by_procedures (map typed.procedure l.all))
