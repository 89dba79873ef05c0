use Rattle.std.proofs.Common.{◌≡◌, Some, drop, map}
use Rattle.std.specs.List.{AllByRecursion}
use Rattle.cse_verify.specs.CaseEvents.{records_events}
use Rattle.cse_report.specs.Reports.{ReportsFit}
use Rattle.cse_steps.specs.Fits.{occurrences_in}
use Rattle.cse_batch_parts.specs.Handled.{IsHandledRecord, number_of}
use Rattle.cse_batch_parts.specs.Scene.{GoesOn, scene, scene_after_all}
use Rattle.cse_batch_parts.proofs.events.run_records.Given as goal

abbrev pub invariant-records : goal.invariant-records
invariant-records g l = record {
  same : g.M.Runs.program l.machine ≡ l.verified;
  reports_fit : ReportsFit l.verified.image l.reports;
  goes_on : GoesOn l.verified l.fn.case l.case l.store;
  handled : AllByRecursion (IsHandledRecord l.verified) (drop l.of_record-index l.handled.records.items);
  left : scene_after_all l.verified (scene (Some l.case) l.store l.reports) (records_events l.verified.image.lists.items (occurrences_in (Some l.fn.case)) (map number_of (drop l.of_record-index l.handled.records.items)))
      ≡ scene_after_all l.verified (scene (Some l.fn.case) l.fn.store l.fn.reports) (records_events l.verified.image.lists.items (occurrences_in (Some l.fn.case)) (map number_of l.handled.records.items));
}
