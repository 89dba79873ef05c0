use Rattle.std.proofs.Common.{◌≤◌, ◌-◌, take, length}
use Rattle.std.specs.Prelude.{encode_utf8_all}
use Rattle.cse_case.specs.Bytes.{columns_lent}
use Rattle.cse_value.specs.Gathering.{behind, Puts}
use Rattle.cse_case.proofs.write.put_parts.Given as goal

abbrev pub invariant-parts : goal.invariant-parts
invariant-parts g l = record {
  low : l.at ≤ length (columns_lent l.columns);
  put : Puts (behind g.W.Output.taken g.W.Output.has_failed l.fn.out l.fn.gatherer)
      (behind g.W.Output.taken g.W.Output.has_failed l.out l.gatherer) (encode_utf8_all (take l.at (columns_lent l.columns)));
}

abbrev pub decreases-parts : goal.decreases-parts
decreases-parts g l = length (columns_lent l.columns) - l.at
