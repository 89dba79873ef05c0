use Rattle.std.proofs.Common.{map}
use Rattle.cse_logic_tree.specs.Typed as typed
use Rattle.cse_edit.specs.Items as spec
use Rattle.cse_edit.proofs.Marking.{marked_source}
use Rattle.cse_edit.proofs.sources.source.Goals as goal

pub returns : goal.returns
returns c =
    marked_source _ c.declarations.new.marks c.procedures.new.marks (typed.tree c.args.x.now) (spec.written_by_functions (map typed.declaration c.declarations_of.result.now)) (map typed.procedure c.procedures_of.result.now)
    c.declarations_of.ensures c.procedures_of.ensures c.declarations.ensures c.procedures.ensures
