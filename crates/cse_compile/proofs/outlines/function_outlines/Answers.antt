use Rattle.std.proofs.Common.{refl, ◌∙◌, map}
use Rattle.cse_logic_tree.specs.Typed.{declaration}
use Rattle.cse_compile.specs.Outline.{outline, functions_in, function_of}
use Rattle.cse_compile.proofs.SectionLists.{item_on}
use Rattle.cse_compile.proofs.outlines.function_outlines.Goals as goal

pub all-preserved : goal.all-preserved
all-preserved c =
    item_on (λ l. functions_in (map declaration l)) c.args.declarations.now c.all.written-index c.written-item.result (map outline c.all.outlines.items) (map outline c.add_function.new.outlines.items) (function_of (declaration c.written-item.result))
    c.all-test.true
    c.written-item.is
    refl
    c.in_ok-add_function.ensures
    ∙ c.all.invariant
