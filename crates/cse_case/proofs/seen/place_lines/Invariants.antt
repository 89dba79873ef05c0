use Rattle.std.proofs.Common.{◌≡◌, vec_len}
use Rattle.cse_case.specs.Table.{AreSpans}
use Rattle.cse_case.proofs.seen.place_lines.Given as goal

abbrev pub invariant-records : goal.invariant-records
invariant-records l = record {
  size : vec_len l.spans ≡ l.number;
  spans : AreSpans l.lines l.counts l.firsts.items l.spans.items;
}
