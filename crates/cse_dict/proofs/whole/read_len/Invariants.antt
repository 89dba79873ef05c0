use Rattle.std.proofs.Common.{◌≡◌, ◌+◌, drop, false}
use Rattle.cse_dict.specs.Faults.{read_len}
use Rattle.cse_dict.proofs.whole.read_len.Given as goal

abbrev pub invariant-sections : goal.invariant-sections
invariant-sections l = (l.len ≡ l.section-index) × (l.len + read_len l.has_level (drop l.section-index l.rest) ≡ read_len false l.rest)
