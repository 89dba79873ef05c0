-- The events of an image, in order.
use Rattle.std.proofs.Common.{◌≡◌, ◌-◌, List, [], ◌∷◌, ◌++◌, length, Some, arith}
use Rattle.std.proofs.lemmas.List.{length_push}
use Rattle.cse_lemmas.proofs.Lists.{slice_get_push}
use Rattle.cse_image_parts.specs.declared.entries.EventEntry.{EventEntry}
use Rattle.cse_image_parts.specs.Fields.{last_event}

pub last_is : (before : List EventEntry) (e : EventEntry) → last_event (before ++ e ∷ []) ≡ Some e
last_is before e = slice_get_push before e (length (before ++ e ∷ []) - 1) (let n = length_push before e in omega arith)
