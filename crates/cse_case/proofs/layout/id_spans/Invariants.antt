use Rattle.std.proofs.Common.{◌≡◌, filter, map, take}
use Rattle.std.specs.Prelude.{◌==◌}
use Rattle.cse_case.specs.NamedColumns.{span_of}
use Rattle.cse_case.proofs.layout.id_spans.Given as goal

abbrev pub invariant-items : goal.invariant-items
invariant-items l = l.spans.items ≡ map span_of (filter (λ item. item.owner == 255) (take l.item-index l.items))
