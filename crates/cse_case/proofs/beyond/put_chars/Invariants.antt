use Rattle.std.proofs.Common.{◌≡◌, ◌++◌, drop, length}
use Rattle.cse_case.specs.Bytes.{columns_by}
use Rattle.cse_case.proofs.beyond.put_chars.Given as goal

abbrev pub invariant-chars : goal.invariant-chars
invariant-chars l = record {
  count : l.len ≡ length l.yielded;
  wide : length l.bytes ≡ length l.initial.bytes;
  room : length l.beside ≡ length l.initial.beside;
  columns : columns_by l.bytes l.beside ≡ l.yielded ++ drop l.len (columns_by l.initial.bytes l.initial.beside);
}
