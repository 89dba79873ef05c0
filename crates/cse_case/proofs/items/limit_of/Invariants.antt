use Rattle.std.proofs.Common.{◌≤◌}
use Rattle.cse_case.specs.Limits.{AreKeptUpTo}
use Rattle.cse_case.proofs.items.limit_of.Given as goal

abbrev pub invariant-items : goal.invariant-items
invariant-items l = record {
  low : l.limit ≤ l.most;
  kept : AreKeptUpTo l.i l.dictionary l.len l.limit;
}
