use Rattle.cse_verify.proofs.DepthLaws.{AreGreatest}
use Rattle.cse_verify.proofs.depth.depth_of.Given as goal

abbrev pub invariant-cells : goal.invariant-cells
invariant-cells l = AreGreatest l.cells l.depth-index l.nums l.texts l.ords
