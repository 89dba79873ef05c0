use Rattle.std.proofs.Common.{◌≡◌, take}
use Rattle.cse_case.specs.Bytes.{columns_lent}
use Rattle.cse_case.proofs.same.are_same.Given as goal

abbrev pub invariant-columns : goal.invariant-columns
invariant-columns l = take l.i (columns_lent l.a) ≡ take l.i (columns_lent l.b)
