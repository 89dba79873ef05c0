use Rattle.std.proofs.Common.{◌≡◌, ◌+◌, ◌++◌, take, map, length}
use Rattle.cse_case.specs.Seen.{places_from}
use Rattle.cse_case.specs.Table.{first_at, types_in}
use Rattle.cse_case.proofs.seen.place_record.Given as goal

abbrev pub invariant-lines : goal.invariant-lines
invariant-lines l =
    let found = take l.count (places_from 0 l.number (take l.line-index (types_in l.lines))) in
    record {
      firsts : l.firsts.items ≡ l.fn.firsts.items ++ map (first_at l.lines) found;
      left : l.left + length found ≡ l.count;
    }
