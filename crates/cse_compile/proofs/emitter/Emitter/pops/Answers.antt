use Rattle.std.proofs.Common.{◌-◌, ◌++◌, ◌∷◌, [], ap, sym, ◌∙◌, arith, append_assoc}
use Rattle.cse_image_parts.specs.declared.instruction.Op.TheVariants as ops
use Rattle.cse_compile.specs.Wide.{with_a, pops}
use Rattle.cse_compile.proofs.Lists.{pops_less}
use Rattle.cse_compile.proofs.emitter.Emitter.pops.Goals as goal

pub all-preserved : goal.all-preserved
all-preserved c =
    ap (λ l. l ++ pops (c.all.left - 1)) c.in_ok-with_a.ensures
    ∙ append_assoc c.all.self (with_a ops.Pop 2 ∷ []) (pops (c.all.left - 1))
    ∙ ap (λ l. c.all.self ++ l) (sym (pops_less c.all.left (omega (arith, c.all-test.true))))
    ∙ c.all.invariant
