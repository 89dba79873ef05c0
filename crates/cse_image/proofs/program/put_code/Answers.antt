use Rattle.std.proofs.Common.{take}
use Rattle.std.proofs.lemmas.List.{flat_map_more}
use Rattle.cse_lemmas.proofs.Lists.{take_some}
use Rattle.cse_image.specs.Spelling.{instr}
use Rattle.cse_image.proofs.program.put_code.Goals as goal

pub loop-i-preserved : goal.loop-i-preserved
loop-i-preserved g c =
    let code = g.C.Code.list c.args.code.now in
    rw (c.in_ok-put_instr.ensures, c.loop-i.invariant, take_some code c.loop-i.i c.at.result c.at.ensures)
    (flat_map_more instr c.args.out.now.items (take c.loop-i.i code) c.at.result)
