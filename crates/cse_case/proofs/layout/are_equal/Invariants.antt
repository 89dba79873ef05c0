use Rattle.std.proofs.Common.{◌≡◌, ◌≤◌, drop, length}
use Rattle.std.specs.Str.{bytes_eq}
use Rattle.cse_case.specs.Bytes.{columns_lent}
use Rattle.cse_case.specs.NamedColumns.{fields_at, last_column}
use Rattle.cse_case.proofs.layout.are_equal.Given as goal

abbrev pub invariant-spans : goal.invariant-spans
invariant-spans l = record {
  left : last_column (drop l.span-index l.spans) ≤ length (columns_lent l.a);
  right : last_column (drop l.span-index l.spans) ≤ length (columns_lent l.b);
  same : bytes_eq (fields_at l.spans (columns_lent l.a)) (fields_at l.spans (columns_lent l.b)) ≡ bytes_eq (fields_at (drop l.span-index l.spans) (columns_lent l.a)) (fields_at (drop l.span-index l.spans) (columns_lent l.b));
}
