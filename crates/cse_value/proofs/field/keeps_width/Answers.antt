use Rattle.cse_value.proofs.WidthLaws.{length-put, length-put_text}
use Rattle.cse_value.proofs.field.keeps_width.Goals as goal

pub returns-clause-numbers : goal.returns-clause-numbers
returns-clause-numbers c = length-put

pub returns-clause-texts : goal.returns-clause-texts
returns-clause-texts c = length-put_text
