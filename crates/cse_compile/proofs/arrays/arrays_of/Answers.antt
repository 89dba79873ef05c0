use Rattle.std.proofs.Common.{refl, ◌∙◌, map}
use Rattle.cse_image_parts.specs.Image.{array_lists}
use Rattle.cse_logic_tree.specs.Typed.{declaration}
use Rattle.cse_compile.specs.Tables.{arrays_in, arrays_of}
use Rattle.cse_compile.proofs.SectionLists.{item_on}
use Rattle.cse_compile.proofs.arrays.arrays_of.Goals as goal

pub all-preserved : goal.all-preserved
all-preserved c =
    item_on (λ l. arrays_in (map declaration l)) c.args.declarations.now c.all.written-index c.written-item.result (map array_lists c.all.arrays.items) (map array_lists c.add_array.new.arrays.items) (arrays_of (declaration c.written-item.result))
    c.all-test.true
    c.written-item.is
    refl
    c.in_ok-add_array.ensures
    ∙ c.all.invariant
