use Rattle.std.proofs.Common.{◌<◌, ◌≤◌, length, get_or, sym, arith}
use Rattle.cse_value.specs.declared.shape.RecordShape.{RecordShape}
use Rattle.cse_value.specs.Occurrences.{most_occurrences}
use Rattle.cse_case.proofs.SeenLaws.{AreCounts-seen, AreCounts-extra, extra_if_full, most_at}
use Rattle.cse_case.proofs.seen.count_line.Goals as goal
use Rattle.cse_case.proofs.seen.count_line.Goals.{else-record-records-via-then-record-records+else-counts-record, else-record-records-via-else-record-records}

full : (c : goal.Joined-else-record-records) → c.in-Some.record < length c.args.records.now → most_occurrences c.args.records.now c.in-Some.record ≤ get_or c.args.counts.now c.in-Some.record 0
full c there =
    let no : RecordShape = record { max_records = 0; record_len = 0 } in
    elim c.else-record-records.branch [
      | else-record-records-via-then-record-records+else-counts-record w ↦
          rw (most_at c.args.records.now c.in-Some.record no there) w.if-counts-record.false
      | else-record-records-via-else-record-records w ↦ absurd (omega (arith, w.if-record-records.false))
    ]

pub returns-then-counts-record-clause-counts : goal.returns-then-counts-record-clause-counts
returns-then-counts-record-clause-counts c = λ before are.
    let no : RecordShape = record { max_records = 0; record_len = 0 } in
    let room : get_or c.args.counts.now c.in-Some.record 0 < most_occurrences c.args.records.now c.in-Some.record = rw (most_at c.args.records.now c.in-Some.record no c.if-record-records.true) c.if-counts-record.true in
    rw c.in-Some.is (AreCounts-seen c.args.records.now before c.args.counts.now c.in-Some.record are c.if-record-records.true room)

pub returns-clause-why : goal.returns-clause-why
returns-clause-why c = λ before are. rw c.in-Some.is (sym (extra_if_full c.args.records.now before c.args.counts.now c.in-Some.record are (full c)))

pub returns-clause-counts : goal.returns-clause-counts
returns-clause-counts c = λ before are. rw c.in-Some.is (AreCounts-extra c.args.records.now before c.args.counts.now c.in-Some.record are (full c))
