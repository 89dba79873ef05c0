use Rattle.cse_case.specs.Bytes.{columns_lent}
use Rattle.cse_case.proofs.WriteLaws.{Trimmed}
use Rattle.cse_case.proofs.write.kept.Given as goal

abbrev pub invariant-blanks : goal.invariant-blanks
invariant-blanks l = Trimmed (columns_lent l.columns) l.len l.n

abbrev pub decreases-blanks : goal.decreases-blanks
decreases-blanks l = l.n
