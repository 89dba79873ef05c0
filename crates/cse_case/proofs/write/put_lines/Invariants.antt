use Rattle.std.proofs.Common.{take}
use Rattle.std.specs.List.{flat_map}
use Rattle.cse_case.specs.Laid.{laid_lines}
use Rattle.cse_case.specs.Written.{written_line}
use Rattle.cse_value.specs.Gathering.{behind, Puts}
use Rattle.cse_case.specs.Bytes.{columns_lent}
use Rattle.cse_case.proofs.write.put_lines.Given as goal

abbrev pub invariant-lines : goal.invariant-lines
invariant-lines g l =
    Puts (behind g.W.Output.taken g.W.Output.has_failed l.fn.out l.fn.gatherer)
    (behind g.W.Output.taken g.W.Output.has_failed l.out l.gatherer)
    (flat_map written_line (laid_lines (columns_lent l.columns) (take l.line-index l.lines)))
