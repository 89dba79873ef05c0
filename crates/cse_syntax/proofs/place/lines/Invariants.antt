use Rattle.std.proofs.Common.{◌≡◌, ◌≤◌, take}
use Rattle.std.specs.List.{count_by}
use Rattle.cse_syntax.specs.Place.{is_line_end}
use Rattle.cse_syntax.proofs.place.lines.Given as goal

abbrev pub invariant-bytes : goal.invariant-bytes
invariant-bytes l = (l.count ≡ count_by is_line_end (take l.i l.bytes)) × (l.count ≤ l.i)
