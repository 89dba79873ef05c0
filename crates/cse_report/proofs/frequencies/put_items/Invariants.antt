use Rattle.std.proofs.Common.{take}
use Rattle.cse_dict.specs.Dictionary.{item_names}
use Rattle.cse_value.specs.Gathering.{behind, Puts}
use Rattle.cse_report.specs.Frequency.{items_lines}
use Rattle.cse_report.proofs.frequencies.put_items.Given as goal

-- the items so far
abbrev pub invariant-items : goal.invariant-items
invariant-items g l =
    Puts (behind g.W.Output.taken g.W.Output.has_failed l.fn.out l.fn.gatherer)
    (behind g.W.Output.taken g.W.Output.has_failed l.out l.gatherer)
    (items_lines (take l.item (item_names l.dictionary)) (take l.item l.items))
