use Rattle.std.proofs.Common.{◌++◌, ◌∷◌, [], refl, ap, ◌∙◌, map, arith}
use Rattle.std.specs.Int.{w64}
use mir.Val.{SFits}
use Rattle.std.proofs.lemmas.Int.{ints, to_z-of_z}
use Rattle.cse_logic_tree.specs.Typed.{whole}
use Rattle.cse_compile.specs.Tables.{cell_of}
use Rattle.cse_compile.proofs.SectionLists.{one_on}
use Rattle.cse_compile.proofs.arrays.cells_of.Goals as goal

pub all-preserved : goal.all-preserved
all-preserved c =
    let fits : SFits w64 c.cell_of.result = omega (arith, ints, c.cell_of.type_inv) in
    one_on (λ l. map cell_of (map whole l)) c.args.values.now c.all.value-index _ c.all.cells.items c.push.new.self.items _
    c.all-test.true
    refl
    (c.in_ok-push.ensures.items ∙ ap (λ x. c.all.cells.items ++ x ∷ []) (to_z-of_z w64 c.cell_of.result fits ∙ c.cell_of.ensures))
    ∙ c.all.invariant
