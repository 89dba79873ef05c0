-- The reports of a run fit its program.
use Rattle.std.specs.Prelude.{◌≡◌, length}
use Rattle.cse_image_parts.specs.Image.{Image}
use Rattle.cse_report.specs.declared.reports.Reports.{Reports}

-- the program's messages with a count for each, and a table for each of its items
pub record ReportsFit (x : Image) (r : Reports) : Type 0 where
  pub messages : r.listing.messages ≡ x.lists.messages
  pub counts : length r.listing.counts ≡ length x.lists.messages
  pub items : length r.frequencies ≡ length x.lists.items
