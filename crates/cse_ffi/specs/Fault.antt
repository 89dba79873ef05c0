-- What C is told.
use Rattle.std.specs.Prelude.{ℕ, Bool, List, length, if◌then◌else◌}
use Rattle.cse_verify.specs.declared.image.CheckFault.{CheckFault}
use Rattle.cse_verify.specs.declared.image.CheckFault.TheVariants as checks
use Rattle.cse_batch_parts.specs.declared.totals.Totals.{Totals}
use Rattle.cse_ffi.specs.declared.fault.CsbFault.{CsbFault}
use Rattle.cse_ffi.specs.declared.fault.CsbCounts.{CsbCounts}
use Rattle.cse_ffi.specs.declared.fault.CsbTotals.{CsbTotals}

-- a number with its place
abbrev pub fault_at : ℕ → ℕ → ℕ → CsbFault
fault_at number line column = record { number = number; line = line; column = column }

-- why an image may not run: a byte, or a routine and a place, is no line
abbrev pub of_check : CheckFault → CsbFault
of_check (checks.Image e) = fault_at e.number 0 0
of_check (checks.Refused r) = fault_at r.number 0 0
of_check checks.Memory = fault_at 90 0 0

-- what a run counted
abbrev pub counts_of : Totals → CsbCounts
counts_of t = record { cases = t.cases; lines = t.lines; unseen = t.unseen }

-- the same, with the lengths of its four texts
abbrev pub totals_of : Totals → List ℕ → List ℕ → List ℕ → List ℕ → CsbTotals
totals_of t out listing frequencies decks = record {
  cases = t.cases;
  lines = t.lines;
  unseen = t.unseen;
  out = length out;
  listing = length listing;
  frequencies = length frequencies;
  decks = length decks;
}

-- 0 where all bytes are put, and 1 where a buffer is too small
abbrev pub status_of : Bool → ℕ
status_of is_put = if is_put then 0 else 1
