use Rattle.std.proofs.Common.{◌≡◌, ◌+◌, ◌++◌, length, take, replicate}
use Rattle.cse_value.proofs.field.put_right.Given as goal

abbrev pub invariant-loop-i : goal.invariant-loop-i
invariant-loop-i l = record {
  width : length l.columns ≡ length l.fn.columns;
  written : take (l.room + l.i) l.columns ≡ replicate l.room l.fn.filler ++ take l.i l.bytes;
}
