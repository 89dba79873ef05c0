use Rattle.std.proofs.Common.{◌≡◌, take}
use Rattle.cse_report.specs.Frequency.{total}
use Rattle.cse_report.proofs.counts.total_of.Given as goal

-- the total so far
abbrev pub invariant-values : goal.invariant-values
invariant-values l = l.total ≡ total (take l.i l.counts)
