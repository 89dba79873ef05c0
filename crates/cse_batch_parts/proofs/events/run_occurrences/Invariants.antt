use Rattle.std.proofs.Common.{◌≡◌, ◌+◌, ◌-◌, Some}
use Rattle.cse_verify.specs.CaseEvents.{occurrence_events}
use Rattle.cse_report.specs.Reports.{ReportsFit}
use Rattle.cse_batch_parts.specs.Scene.{GoesOn, scene, scene_after_all}
use Rattle.cse_batch_parts.proofs.events.run_occurrences.Given as goal

abbrev pub invariant-occurrences : goal.invariant-occurrences
invariant-occurrences g l = record {
  same : g.M.Runs.program l.machine ≡ l.verified;
  reports_fit : ReportsFit l.verified.image l.reports;
  goes_on : GoesOn l.verified l.fn.case l.case l.store;
  left : scene_after_all l.verified (scene (Some l.case) l.store l.reports) (occurrence_events l.handled.number l.verified.image.lists.items (l.before + 1) (l.count - l.before))
      ≡ scene_after_all l.verified (scene (Some l.fn.case) l.fn.store l.fn.reports) (occurrence_events l.handled.number l.verified.image.lists.items 1 l.count);
}
