use Rattle.std.proofs.Common.{◌≡◌, ℕ, ◌+◌, ◌<◌, ◌≤◌, length, get_or}
use Rattle.cse_office.specs.Changes.{seen_of}
use Rattle.cse_office.proofs.seen.add_seen.Given as goal

abbrev pub invariant-records : goal.invariant-records
invariant-records l = record {
  each : (k : ℕ) → k < l.number → get_or l.seen k 0 ≡ get_or l.fn.seen k 0 + seen_of l.records k l.lines;
  few : (k : ℕ) → get_or l.seen k 0 ≤ get_or l.fn.seen k 0 + length l.lines;
  others : (k : ℕ) → l.number ≤ k → get_or l.seen k 0 ≡ get_or l.fn.seen k 0;
}
