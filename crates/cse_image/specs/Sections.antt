-- The two halves of the sections, in version 2.
use Rattle.std.specs.Prelude.{ℕ, List}
use Rattle.cse_image_parts.specs.Image.{Lists}
use Rattle.cse_image_parts.specs.Spelling.{◌⧺◌, u32, i64, section}
use Rattle.cse_image.specs.Spelling.{record_shape, item_shape, set_shape, text, global, array, message, routine, event}

-- from the records to the limits
abbrev pub early_lists : Lists → List ℕ
early_lists x = section record_shape x.records ⧺ section item_shape x.items ⧺ section set_shape x.sets ⧺ section u32 x.order ⧺ section i64 x.constants ⧺ section u32 x.limits

-- from the texts to the events
abbrev pub late_lists : Lists → List ℕ
late_lists x = section text x.texts ⧺ section global x.globals ⧺ section array x.arrays ⧺ section message x.messages ⧺ section routine x.routines ⧺ section event x.events
