use Rattle.std.proofs.Common.{refl}
use Rattle.cse_case.specs.Bytes.{columns_by}
use Rattle.cse_case.proofs.columns.OwnColumns.new.Goals as goal

pub returns-clause-columns : goal.returns-clause-columns
unfolding columns_by
returns-clause-columns c = rw c.new.ensures.items refl
