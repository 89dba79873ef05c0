-- The least of the faults so far, and of the others.
use Rattle.std.specs.Prelude.{if◌then◌else◌, Option, Some, None}
use Rattle.cse_logic_faults.specs.Faults.{Fault, is_before, lesser}

abbrev pub lesser_so_far : Option Fault → Fault → Fault
lesser_so_far None x = x
lesser_so_far (Some l) x = if is_before x l then x else l

abbrev pub both : Option Fault → Option Fault → Option Fault
both None y = y
both (Some x) y = Some (lesser x y)
