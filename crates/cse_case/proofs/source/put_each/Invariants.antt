use Rattle.std.proofs.Common.{◌≡◌, ◌≤◌, length, take}
use Rattle.cse_case.specs.Bytes.{columns_lent}
use Rattle.cse_case.specs.NamedColumns.{fields_at}
use Rattle.cse_case.proofs.source.put_each.Given as goal

abbrev pub invariant-spans : goal.invariant-spans
invariant-spans l = record {
  within : l.at ≤ length l.fields.items;
  put : take l.at l.fields.items ≡ fields_at (take l.span-index l.spans) (columns_lent l.columns);
}
