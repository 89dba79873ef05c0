use Rattle.cse_code_typing.proofs.brackets.is_fine.Goals as goal

pub returns-in-Jump : goal.returns-in-Jump
returns-in-Jump g c = rw c.in-Jump.is c.is_jump.ensures

pub returns-in-Branch : goal.returns-in-Branch
returns-in-Branch g c = rw c.in-Branch.is c.is_jump-in-Branch.ensures

pub returns-in-Open : goal.returns-in-Open
returns-in-Open g c = rw c.in-Open.is c.is_opener.ensures

pub returns-in-End : goal.returns-in-End
returns-in-End g c = rw c.in-End.is c.is_bracket.ensures

pub returns-in-Break : goal.returns-in-Break
returns-in-Break g c = rw c.in-Break.is c.is_break.ensures
