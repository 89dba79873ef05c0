use Rattle.std.proofs.Common.{◌≡◌, ◌++◌, drop}
use Rattle.cse_dict.specs.Dictionary.{records_of}
use Rattle.cse_dict.proofs.parts.records_of.Given as goal

abbrev pub invariant-sections : goal.invariant-sections
invariant-sections l = l.records.items ++ records_of l.len (drop l.section-index l.read) ≡ records_of l.len l.read
