use Rattle.std.proofs.Common.{◌≡◌}
use Rattle.std.specs.Prelude.{replicate}
use Rattle.cse_report.proofs.listing.no_counts.Given as goal

-- counts so far
abbrev pub invariant-counts : goal.invariant-counts
invariant-counts l = l.counts.items ≡ replicate l._message 0
