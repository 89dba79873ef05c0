use Rattle.std.proofs.Common.{◌≡◌, length, take, replicate}
use Rattle.cse_case.specs.declared.seen.OccurrenceSpan.{OccurrenceSpan}
use Rattle.cse_case.proofs.seen.clear_spans.Given as goal

abbrev none : OccurrenceSpan
none = record { start = 0; count = 0 }

abbrev pub invariant-spans : goal.invariant-spans
invariant-spans l = record {
  len : length l.spans.items ≡ l.count;
  done : take l.i l.spans.items ≡ replicate l.i none;
}
