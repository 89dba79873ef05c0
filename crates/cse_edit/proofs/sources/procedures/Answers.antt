use Rattle.std.proofs.Common.{map, refl, List}
use Rattle.cse_logic_tree.specs.declared.tree.Procedure.{Procedure}
use Rattle.cse_logic_tree.specs.Typed as typed
use Rattle.cse_edit.specs.Items as spec
use Rattle.cse_edit.proofs.Marking.{marked_turn, marked_end}
use Rattle.cse_edit.proofs.sources.procedures.Goals as goal

pub all-preserved : goal.all-preserved
all-preserved c =
    marked_turn (λ (y : Procedure). spec.written_by_body (typed.procedure y).body) (λ (ys : List Procedure). spec.written_by_procedures (map typed.procedure ys)) (λ y ys. refl)
    c.args.all.now c.all.x-index c.x-item.result c.all-test.true c.x-item.is _ _ _ c.all.invariant c.procedure.ensures

pub returns : goal.returns
returns c = marked_end (λ (ys : List Procedure). spec.written_by_procedures (map typed.procedure ys)) refl c.args.all.now c.all.x-index c.all-test.false _ _ c.all.invariant
