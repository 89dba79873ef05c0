use Rattle.std.proofs.Common.{◌++◌, ◌∷◌, [], refl, ap, ◌∙◌, map}
use Rattle.cse_logic_tree.specs.Typed.{dimension}
use Rattle.cse_compile.specs.Tables.{size_of}
use Rattle.cse_compile.proofs.SectionLists.{one_on}
use Rattle.cse_compile.proofs.arrays.sizes_of.Goals as goal

pub all-preserved : goal.all-preserved
all-preserved c =
    one_on (λ l. map size_of (map dimension l)) c.args.dimensions.now c.all.written-index _ c.all.sizes.items c.push.new.self.items _
    c.all-test.true
    refl
    (c.in_ok-push.ensures.items ∙ ap (λ x. c.all.sizes.items ++ x ∷ []) c.size_of.ensures)
    ∙ c.all.invariant
