use Rattle.std.proofs.Common.{◌≡◌, drop, max}
use Rattle.cse_case.specs.NamedColumns.{last_column}
use Rattle.cse_case.proofs.layout.last_column.Given as goal

abbrev pub invariant-spans : goal.invariant-spans
invariant-spans l = max l.last (last_column (drop l.span-index l.spans)) ≡ last_column l.spans
