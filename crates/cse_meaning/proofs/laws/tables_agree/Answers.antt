use Rattle.cse_meaning.proofs.Tables.{tables_agree as law}
use Rattle.cse_meaning.proofs.laws.tables_agree.Goals as goal

pub returns : goal.returns
returns c = law
