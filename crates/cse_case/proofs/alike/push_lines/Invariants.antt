use Rattle.std.proofs.Common.{◌≡◌, ◌-◌, ◌+◌, ◌<◌, ◌≤◌, ◌++◌, drop, length, take}
use Rattle.std.specs.List.{flat_map}
use Rattle.cse_case.specs.Alike.{GathersOn, IsLastOf}
use Rattle.cse_case.specs.Laid.{IsLaid, laid_lines}
use Rattle.cse_case.specs.Line.{end_bytes}
use Rattle.cse_case.specs.Written.{written_line}
use Rattle.cse_case.proofs.alike.push_lines.Given as goal

abbrev pub invariant-lines : goal.invariant-lines
invariant-lines l = record {
  fits : l.at ≤ length l.bytes;
  laid : IsLaid 0 l.columns l.lines.items;
  last : IsLastOf l.lines.items l.last;
  wide : l.width ≤ l.last.len;
  few : l.last.len ≤ 65536;
  whole : l.len ≡ l.last.len + length (end_bytes l.last.ending);
  some : 0 < length (end_bytes l.last.ending);
  written : flat_map written_line (laid_lines l.columns l.lines.items) ≡ flat_map written_line (laid_lines l.fn.columns l.fn.lines.items) ++ take l.at l.bytes;
  more : GathersOn l.width l.fn.columns l.fn.lines.items l.bytes l.columns l.lines.items (drop l.at l.bytes);
  keeps_columns : take (length l.fn.columns) l.columns ≡ l.fn.columns;
  keeps_lines : take (length l.fn.lines.items) l.lines.items ≡ l.fn.lines.items;
}

abbrev pub decreases-lines : goal.decreases-lines
decreases-lines l = length l.bytes - l.at
