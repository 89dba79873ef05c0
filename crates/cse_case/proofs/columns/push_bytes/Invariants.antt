use Rattle.std.proofs.Common.{◌≡◌, ◌≤◌, ◌++◌, take, vec_capacity}
use Rattle.cse_case.proofs.columns.push_bytes.Given as goal

abbrev pub invariant-bytes : goal.invariant-bytes
invariant-bytes l = record {
  items : l.characters.items ≡ l.initial.characters.items ++ take l.byte-index l.bytes;
  room : vec_capacity l.initial.characters ≤ vec_capacity l.characters;
}
