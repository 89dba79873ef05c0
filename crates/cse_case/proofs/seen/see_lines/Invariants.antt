use Rattle.std.proofs.Common.{◌≡◌, ◌+◌, ◌++◌, ◌-◌, length, take, drop}
use Rattle.cse_case.specs.Seen.{unseen_from, unseen_of}
use Rattle.cse_case.specs.Table.{AreSeen, types_in}
use Rattle.cse_case.proofs.seen.see_lines.Given as goal

abbrev pub decreases-lines : goal.decreases-lines
decreases-lines l = length l.lines - l.place

abbrev pub invariant-lines : goal.invariant-lines
invariant-lines l =
    let types = types_in l.lines in
    record {
      seen : AreSeen l.records l.lines l.place l.firsts.items l.spans.items;
      unseen : l.unseen.items ++ unseen_from l.records (l.number + l.place) (take l.place types) (drop l.place types) ≡ unseen_of l.records l.number types;
    }
