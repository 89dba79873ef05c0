use Rattle.std.proofs.Common.{map, Ok}
use Rattle.std.specs.String.{string_bytes}
use Rattle.cse_image_parts.specs.Image.{Lists, array_lists, message_lists, routine_lists}
use Rattle.cse_image.proofs.TableLaws.{tables_read}
use Rattle.cse_image.proofs.reading.tables_of.Goals as goal

pub returns-clause-exact : goal.returns-clause-exact
returns-clause-exact c =
    let x : Lists = record {
      records = c.section_of-at_items.new.entries.items;
      items = c.section_of-at_sets.new.entries.items;
      sets = c.section_of-at_order.new.entries.items;
      order = c.section_of-at_constants.new.entries.items;
      constants = c.section_of-at_limits.new.entries.items;
      limits = c.limits_of-at_texts.new.limits.items;
      texts = map string_bytes c.section_of-at_globals.new.entries.items;
      globals = c.section_of-at_arrays.new.entries.items;
      arrays = map array_lists c.arrays_of-at_messages.new.arrays.items;
      messages = map message_lists c.section_of-at_routines.new.entries.items;
      routines = map routine_lists c.routines_of-at_events.new.routines.items;
      events = c.section_of.new.entries.items;
    } in
    tables_read (λ s. s.now) c.args.version x (Ok c.args.bytes) c.section_of-at_items.result c.section_of-at_sets.result c.section_of-at_order.result c.section_of-at_constants.result c.section_of-at_limits.result c.limits_of-at_texts.result c.section_of-at_globals.result c.section_of-at_arrays.result c.arrays_of-at_messages.result c.section_of-at_routines.result c.routines_of-at_events.result c.section_of.result
    c.section_of-at_items.ensures.exact c.section_of-at_items.ensures.stopped
    c.section_of-at_sets.ensures.exact c.section_of-at_sets.ensures.stopped
    c.section_of-at_order.ensures.exact c.section_of-at_order.ensures.stopped
    c.section_of-at_constants.ensures.exact c.section_of-at_constants.ensures.stopped
    c.section_of-at_limits.ensures.exact c.section_of-at_limits.ensures.stopped
    c.limits_of-at_texts.ensures.exact c.limits_of-at_texts.ensures.stopped
    c.section_of-at_globals.ensures.exact c.section_of-at_globals.ensures.stopped
    c.section_of-at_arrays.ensures.exact c.section_of-at_arrays.ensures.stopped
    c.arrays_of-at_messages.ensures.exact c.arrays_of-at_messages.ensures.stopped
    c.section_of-at_routines.ensures.exact c.section_of-at_routines.ensures.stopped
    c.routines_of-at_events.ensures.exact c.routines_of-at_events.ensures.stopped
    c.section_of.ensures.exact c.section_of.ensures.stopped
