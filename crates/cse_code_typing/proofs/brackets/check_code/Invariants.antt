use Rattle.cse_code_typing.proofs.Checks.{IsSoFar}
use Rattle.cse_code_typing.proofs.brackets.check_code.Given as goal

-- the openers at hand are those around the place, and the places before it keep the rules
abbrev pub invariant-places : goal.invariant-places
invariant-places g l = IsSoFar l.code l.place l.openers
