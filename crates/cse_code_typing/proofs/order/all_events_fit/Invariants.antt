use Rattle.std.proofs.Common.{◌≡◌, true, take}
use Rattle.std.specs.List.{list_all}
use Rattle.cse_image_parts.specs.Image.{lists_of}
use Rattle.cse_code_typing.specs.Order.{fits_event}
use Rattle.cse_value.specs.Shape.{shape_lists}
use Rattle.cse_code_typing.proofs.order.all_events_fit.Given as goal

abbrev pub invariant-events : goal.invariant-events
invariant-events l = list_all (fits_event (shape_lists l.shape) (lists_of l.tables)) (take l.i l.tables.events.items) ≡ true
