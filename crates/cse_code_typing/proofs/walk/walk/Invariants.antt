use Rattle.std.proofs.Common.{◌+◌, ◌*◌, ◌≤◌, length}
use Rattle.cse_code_typing.specs.Code.{part}
use Rattle.cse_code_typing.specs.Tables.{scene_in}
use Rattle.cse_code_typing.specs.Depth.{IsAtMost, most_kept, IsDepthBelow}
use Rattle.cse_code_typing.proofs.PassLaws.{IsPassed}
use Rattle.cse_code_typing.proofs.walk.walk.Given as goal

-- the places so far were passed, and the greatest depth of one
abbrev pub invariant-places : goal.invariant-places
invariant-places g l = record {
  passed : IsPassed (scene_in l.around) l.number (part l.start l.around.routine.now.instructions (g.C.Code.list l.code)) l.openers l.piles l.known l.place;
  stacks : length l.piles ≤ l.place;
  few : IsAtMost (l.around.routine.now.instructions + most_kept * length l.smaller) l.most;
  deep : IsDepthBelow (scene_in l.around) l.smaller (part l.start l.around.routine.now.instructions (g.C.Code.list l.code)) l.place l.most;
}
