use Rattle.std.proofs.Common.{◌≡◌, take}
use Rattle.cse_image.proofs.program.instructions_of.Given as goal

abbrev pub invariant-loop-i : goal.invariant-loop-i
invariant-loop-i g l = l.instructions.items ≡ take l.i (g.C.Code.list l.code)
