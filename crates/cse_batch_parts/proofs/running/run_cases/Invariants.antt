use Rattle.std.proofs.Common.{◌≡◌, ◌-◌, ◌*◌, ◌^◌, None}
use Rattle.cse_decks.specs.Store.{StoreFits}
use Rattle.cse_report.specs.Reports.{ReportsFit}
use Rattle.cse_batch_parts.specs.Outputs.{AreSame, LeavesEnd, lines_from, listing_from}
use Rattle.cse_batch_parts.proofs.RunLaws.{Running}
use Rattle.cse_batch_parts.proofs.running.run_cases.Given as goal

abbrev pub invariant-runs : goal.invariant-runs
invariant-runs g l = record {
  running : Running l.verified l.fn.store (g.R.Input.given l.fn.reader.input.now) (g.R.Input.given l.reader.input.now) l.reader.stream l.store l.reports
      (lines_from g.O.Output l.fn.outputs l.outputs) (listing_from g.L.Output l.fn.outputs l.outputs)
      (record { cases = l.cases; lines = l.lines; unseen = l.unseen });
  sound : l.reader.stream.error ≡ None;
  same : l.reader.input.ghost_name ≡ l.fn.reader.input.ghost_name;
  same_outputs : AreSame l.fn.outputs l.outputs;
  left : LeavesEnd l.fn.outputs l.outputs;
  machine : g.M.Runs.program l.machine ≡ l.verified;
  store_fits : StoreFits l.verified.image l.store;
  reports_fit : ReportsFit l.verified.image l.reports;
}

abbrev pub decreases-runs : goal.decreases-runs
decreases-runs g l = 2 ^ 40 * 65536 - l.reader.stream.lines
