use Rattle.std.proofs.Common.{refl, ◌∙◌, map}
use Rattle.cse_logic_tree.specs.Typed.{declaration}
use Rattle.cse_compile.specs.Tables.{globals_in, globals_of}
use Rattle.cse_compile.proofs.SectionLists.{item_on}
use Rattle.cse_compile.proofs.globals.globals_of.Goals as goal

pub all-preserved : goal.all-preserved
all-preserved c =
    item_on (λ l. globals_in (map declaration l)) c.args.declarations.now c.all.declared-index c.declared-item.result c.all.globals.items c.add_globals.new.globals.items (globals_of (declaration c.declared-item.result))
    c.all-test.true
    c.declared-item.is
    refl
    c.in_ok-add_globals.ensures
    ∙ c.all.invariant
