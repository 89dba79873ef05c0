-- Which files of a command may not be one.
use Rattle.std.specs.Prelude.{ℕ, Bool, List, Option, position, ◌==◌, ◌&&◌, ◌||◌, not, bytes_eq}
use Rattle.cse_files.specs.declared.place.Place.{Place}
use Rattle.cse_files.specs.declared.clashing.Named.{Named}

-- the same file or folder, and the same behind it
abbrev pub is_one_file : Place → Place → Bool
is_one_file a b = ((a.device == b.device) && (a.number == b.number)) && bytes_eq a.rest.now b.rest.now

-- a device; or what lies below /dev/, but for a regular file that is read
abbrev pub may_meet : Named → Named → Bool
may_meet a b = a.place.is_device || ((a.below_dev && b.below_dev) && not (a.place.is_regular && (a.is_read || b.is_read)))

-- one file that is written, and that may not come twice
abbrev pub clashes : Named → Named → Bool
clashes a b = ((a.is_written || b.is_written) && is_one_file a.place b.place) && not (may_meet a b)

-- the first of some files that clashes with another one
abbrev pub clash_before : List Named → Named → Option ℕ
clash_before files file = position (λ other. clashes other file) files
