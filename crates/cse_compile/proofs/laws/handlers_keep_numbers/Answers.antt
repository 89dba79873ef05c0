use Rattle.cse_compile.proofs.NumberLaws.{handlers_keep_numbers}
use Rattle.cse_compile.proofs.laws.handlers_keep_numbers.Goals as goal

pub returns : goal.returns
returns c = handlers_keep_numbers
