use Rattle.cse_verify.proofs.FrameLaws.{AreOpen}
use Rattle.cse_verify.proofs.frames.frames_of.Given as goal

-- the brackets around the place, and the most at the places before it
abbrev pub invariant-places : goal.invariant-places
invariant-places g l = AreOpen l.table l.code l.place l.opened l.most
