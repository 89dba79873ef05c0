use Rattle.std.proofs.Common.{List, [], ◌∷◌, ◌++◌, ap, sym, ◌∙◌, arith}
use Rattle.std.proofs.lemmas.List.{take_all}
use Rattle.cse_lemmas.proofs.Lists.{take_some}
use Rattle.cse_image_parts.specs.declared.instruction.Instr.{Instr}
use Rattle.cse_image.proofs.program.instructions_of.Goals as goal

pub loop-i-preserved : goal.loop-i-preserved
loop-i-preserved g c = c.in_ok-push.ensures.items ∙ ap (λ (xs : List Instr). xs ++ c.at.result ∷ []) c.loop-i.invariant ∙ sym (take_some (g.C.Code.list c.args.code.now) c.loop-i.i c.at.result c.at.ensures)

pub returns : goal.returns
returns g c = c.loop-i.invariant ∙ take_all c.loop-i.i (g.C.Code.list c.args.code.now) (omega (arith, c.len-i-end.ensures, c.loop-i-test.false))
