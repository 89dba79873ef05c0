use Rattle.std.proofs.Common.{◌≡◌, ◌≤◌, ◌*◌, take}
use Rattle.std.specs.Prelude.{encode_utf8_all}
use Rattle.cse_case.specs.Bytes.{columns_lent}
use Rattle.cse_case.proofs.write.write_utf8.Given as goal

abbrev pub invariant-columns : goal.invariant-columns
invariant-columns l = record {
  few : l.n ≤ l.i * 4;
  bytes : take l.n l.bytes ≡ encode_utf8_all (take l.i (columns_lent l.columns));
}
