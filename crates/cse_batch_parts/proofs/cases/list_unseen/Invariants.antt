use Rattle.std.proofs.Common.{◌≡◌, drop, map}
use Rattle.cse_image_parts.specs.Image.{Image}
use Rattle.cse_report.specs.AllReported.{all_reported}
use Rattle.cse_report.specs.Listing.{LeavesUnseen}
use Rattle.cse_report.specs.Reports.{ReportsFit}
use Rattle.cse_batch_parts.proofs.cases.list_unseen.Given as goal

abbrev pub invariant-lines : goal.invariant-lines
invariant-lines l = record {
  left : all_reported l.reports.listing (map (λ u. LeavesUnseen u.0 u.1) (drop l.line-index l.lines)) ≡ all_reported l.fn.reports.listing (map (λ u. LeavesUnseen u.0 u.1) l.lines);
  frequencies : l.reports.frequencies ≡ l.fn.reports.frequencies;
  fits : (x : Image) → ReportsFit x l.fn.reports → ReportsFit x l.reports;
}
