use Rattle.std.proofs.Common.{refl}
use Rattle.cse_compile.proofs.Refused.{refused, never_64}
use Rattle.cse_compile.proofs.compiling.verified.Goals as goal

pub returns-in-Err-clause-refused : goal.returns-in-Err-clause-refused
returns-in-Err-clause-refused c = refused _ _ c.in-Err.refusal _ refl c.in-Err.ensures.first c.in-Err.ensures.never

pub returns-in-Err-clause-room : goal.returns-in-Err-clause-room
returns-in-Err-clause-room c = λ is. never_64 _ _ c.in-Err.refusal c.in-Err.ensures.first is
