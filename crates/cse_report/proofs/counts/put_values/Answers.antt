use Rattle.std.proofs.Common.{◌<◌, length, take, subst}
use Rattle.std.specs.List.{flat_map}
use Rattle.cse_value.proofs.GatherLaws.{Puts-then, Puts-as}
use Rattle.cse_report.specs.Frequency.{value_line}
use Rattle.cse_report.proofs.PutLaws.{flat_map-next}
use Rattle.cse_report.proofs.counts.put_values.Goals as goal

pub values-preserved : goal.values-preserved
values-preserved g c =
    let within : c.values.i < length c.args.counts.now = subst (λ n. c.values.i < n) c.len-i-end.ensures c.values-test.true in
    Puts-as _ _ _ _ (flat_map-next value_line c.args.counts.now c.values.i c.get-value.result within c.get-value.ensures)
    (Puts-then _ _ _ (flat_map value_line (take c.values.i c.args.counts.now)) (value_line c.get-value.result) c.values.invariant c.put_value.ensures)
