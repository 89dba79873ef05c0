use Rattle.std.proofs.Common.{◌≡◌, []}
use Rattle.std.specs.Prelude.{replicate}
use Rattle.cse_report.proofs.frequencies.Frequencies.new.Given as goal

-- tables so far
abbrev pub invariant-items : goal.invariant-items
invariant-items l = l.items.items ≡ replicate l._item []
