use Rattle.std.proofs.Common.{◌≡◌, drop}
use Rattle.cse_dict.specs.Faults.{faults_from, note_all}
use Rattle.cse_dict.proofs.whole.check_from.Given as goal

abbrev pub invariant-sections : goal.invariant-sections
invariant-sections l = note_all l.found (faults_from l.covered l.len l.seen (drop l.section-index l.read)) ≡ note_all l.fn.found (faults_from l.covered l.len l.fn.seen l.read)
