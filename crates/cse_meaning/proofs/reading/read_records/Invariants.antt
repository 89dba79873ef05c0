use Rattle.std.proofs.Common.{take}
use Rattle.std.specs.List.{AllByRecursion}
use Rattle.cse_image.specs.Spelling.{RecordFits}
use Rattle.cse_meaning.proofs.reading.read_records.Given as goal

abbrev pub invariant-loop-record : goal.invariant-loop-record
invariant-loop-record l = AllByRecursion RecordFits (take l.record-index l.records)
