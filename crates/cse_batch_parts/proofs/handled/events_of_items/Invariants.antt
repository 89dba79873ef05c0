use Rattle.std.proofs.Common.{◌≡◌, ◌++◌, drop}
use Rattle.std.specs.List.{filter_map}
use Rattle.cse_steps.specs.Handled.{handled_by}
use Rattle.cse_batch_parts.specs.Handled.{events_of_items}
use Rattle.cse_batch_parts.proofs.handled.events_of_items.Given as goal

-- the events so far, and those of the items that are left
abbrev pub invariant-items : goal.invariant-items
invariant-items g l = l.events.items ++ filter_map (handled_by l.verified.image) (events_of_items l.number l.item (drop l.item l.items)) ≡ filter_map (handled_by l.verified.image) (events_of_items l.number 0 l.items)
