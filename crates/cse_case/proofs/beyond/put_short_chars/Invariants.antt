use Rattle.std.proofs.Common.{◌≡◌, ◌≤◌, ◌-◌, ◌++◌, true, drop, length, take}
use Rattle.std.specs.Str.{chars, is_utf8}
use Rattle.cse_case.specs.Bytes.{columns_by}
use Rattle.cse_case.proofs.beyond.put_short_chars.Given as goal

abbrev pub invariant-chars : goal.invariant-chars
invariant-chars l = record {
  fits : l.at ≤ length l.text;
  utf8 : is_utf8 (take l.at l.text) ≡ true;
  count : l.len ≡ length (chars (take l.at l.text));
  wide : length l.bytes ≡ length l.initial.bytes;
  room : length l.beside ≡ length l.initial.beside;
  columns : columns_by l.bytes l.beside ≡ chars (take l.at l.text) ++ drop l.len (columns_by l.initial.bytes l.initial.beside);
}

abbrev pub decreases-chars : goal.decreases-chars
decreases-chars l = length l.text - l.at
