-- The image of lists that were made one by one.
use Rattle.std.specs.Prelude.{map}
use Rattle.std.specs.String.{string_bytes}
use Rattle.std.specs.Global.{Vec}
use Rattle.cse_image_parts.specs.declared.entries.Array.{Array}
use Rattle.cse_image_parts.specs.Image.{Image, array_lists, message_lists, routine_lists}
use Rattle.cse_compile.specs.declared.parts.DeclaredLists.{DeclaredLists}
use Rattle.cse_compile.specs.declared.routes.Routes.{Routes}

abbrev pub image_from : DeclaredLists → Vec Array → Routes → Image
image_from said arrays routes = record {
  lists = record {
    records = said.shape.records.items;
    items = said.shape.items.items;
    sets = said.shape.sets.items;
    order = said.order.items;
    constants = routes.code.constants.items;
    limits = routes.code.limits.items;
    texts = map string_bytes routes.code.texts.items;
    globals = said.globals.items;
    arrays = map array_lists arrays.items;
    messages = map message_lists said.messages.items;
    routines = map routine_lists routes.routines.items;
    events = routes.events.items;
  };
  code = routes.code.instructions.items;
}
