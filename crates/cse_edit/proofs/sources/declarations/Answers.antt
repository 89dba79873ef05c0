use Rattle.std.proofs.Common.{map, refl, List}
use Rattle.cse_logic_tree.specs.declared.tree.Declaration.{Declaration}
use Rattle.cse_logic_tree.specs.Typed as typed
use Rattle.cse_edit.specs.Items as spec
use Rattle.cse_edit.proofs.Marking.{marked_turn, marked_end}
use Rattle.cse_edit.proofs.sources.declarations.Goals as goal

pub all-preserved : goal.all-preserved
all-preserved c =
    marked_turn (λ (y : Declaration). spec.written_by_declaration (typed.declaration y)) (λ (ys : List Declaration). spec.written_by_functions (map typed.declaration ys)) (λ y ys. refl)
    c.args.all.now c.all.x-index c.x-item.result c.all-test.true c.x-item.is _ _ _ c.all.invariant c.declaration.ensures

pub returns : goal.returns
returns c = marked_end (λ (ys : List Declaration). spec.written_by_functions (map typed.declaration ys)) refl c.args.all.now c.all.x-index c.all-test.false _ _ c.all.invariant
