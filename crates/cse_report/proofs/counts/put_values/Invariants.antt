use Rattle.std.proofs.Common.{take}
use Rattle.std.specs.List.{flat_map}
use Rattle.cse_value.specs.Gathering.{behind, Puts}
use Rattle.cse_report.specs.Frequency.{value_line}
use Rattle.cse_report.proofs.counts.put_values.Given as goal

-- the lines so far
abbrev pub invariant-values : goal.invariant-values
invariant-values g l =
    Puts (behind g.W.Output.taken g.W.Output.has_failed l.fn.out l.fn.gatherer)
    (behind g.W.Output.taken g.W.Output.has_failed l.out l.gatherer)
    (flat_map value_line (take l.i l.counts))
