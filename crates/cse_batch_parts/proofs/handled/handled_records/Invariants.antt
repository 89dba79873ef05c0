use Rattle.std.proofs.Common.{◌≡◌, map, take}
use Rattle.std.specs.Prelude.{filter}
use Rattle.std.specs.List.{AllByRecursion}
use Rattle.cse_batch_parts.specs.Handled.{IsHandledRecord, is_handled, number_of}
use Rattle.cse_batch_parts.proofs.handled.handled_records.Given as goal

-- the records so far
abbrev pub invariant-records : goal.invariant-records
invariant-records g l = record {
  numbers : map number_of l.records.items ≡ filter (is_handled l.verified.image) (take l.number-index l.order);
  each : AllByRecursion (IsHandledRecord l.verified) l.records.items;
}
