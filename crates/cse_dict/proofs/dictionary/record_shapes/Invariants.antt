use Rattle.std.proofs.Common.{◌≡◌, take, map}
use Rattle.cse_dict.proofs.dictionary.record_shapes.Given as goal

abbrev pub invariant-records : goal.invariant-records
invariant-records l = l.shapes.items ≡ map (λ x. x.shape) (take l.record-index l.records)
