use Rattle.std.proofs.Common.{◌≡◌, ◌+◌, ◌++◌, take, drop, map}
use Rattle.cse_case.specs.Seen.{unseen_from, unseen_of}
use Rattle.cse_case.specs.Table.{AreCounts}
use Rattle.cse_case.proofs.seen.count_lines.Given as goal

abbrev pub invariant-lines : goal.invariant-lines
invariant-lines l =
    let types = map (λ x. x.record_number) l.lines in
    record {
      counts : AreCounts l.records (take l.i types) l.counts.items;
      unseen : l.unseen.items ++ unseen_from l.records (l.number + l.i) (take l.i types) (drop l.i types) ≡ unseen_of l.records l.number types;
    }
