use Rattle.std.proofs.Common.{refl, ◌∙◌, map}
use Rattle.cse_logic_tree.specs.Typed.{procedure}
use Rattle.cse_compile.specs.Outline.{handler, handlers_in, handlers_of}
use Rattle.cse_compile.proofs.SectionLists.{item_on}
use Rattle.cse_compile.proofs.outlines.handlers_of.Goals as goal

pub all-preserved : goal.all-preserved
all-preserved c =
    item_on (λ l. handlers_in (map procedure l)) c.args.procedures.now c.all.written-index c.written-item.result (map handler c.all.handlers.items) (map handler c.add_procedure.new.handlers.items) (handlers_of (procedure c.written-item.result))
    c.all-test.true
    c.written-item.is
    refl
    c.in_ok-add_procedure.ensures
    ∙ c.all.invariant
