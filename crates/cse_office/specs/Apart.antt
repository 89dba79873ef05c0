-- Whether the files of a command are apart.
use Rattle.std.specs.Prelude.{◌≡◌, ◌<◌, ℕ, Bool, List, Option, None, Some, length, map, take, slice_index_or, nat_eq, codes, not}
use Rattle.std.specs.List.{starts_with}
use Rattle.cse_files.specs.declared.clashing.Named.{Named}
use Rattle.cse_files.specs.Clashes.{clash_before}
use Rattle.cse_office.specs.declared.apart.Role.{Role}
use Rattle.cse_office.specs.declared.apart.Use.{Use}
use Rattle.cse_office.specs.declared.stop.Stop.{Stop}
use Rattle.cse_office.specs.declared.stop.Stop.TheVariants.{OneFile, Refused}
use Rattle.cse_office.specs.declared.stop.Fault.{Fault}
use Rattle.cse_office.specs.declared.stop.Spot.TheVariants.{Whole}

-- a fault that tells no place and no file
abbrev pub plain : ℕ → Fault
plain number = record { number = number; spot = Whole; slot = None }

-- what is done with a file, and whether its path begins with /dev/
abbrev pub done_with : Named → Bool × Bool × Bool
done_with f = (f.is_read, f.is_written, f.below_dev)

abbrev pub asked_of : Use → Bool × Bool × Bool
asked_of u = (not u.is_written, u.is_written, starts_with nat_eq u.path.now (codes "/dev/"))

-- the files, each with the place that its path leads to
abbrev pub AreOf : List Use → List Named → Type 0
AreOf uses files = map done_with files ≡ map asked_of uses

-- none clashes with one before it
abbrev pub NoneClashes : List Named → Type 0
NoneClashes files = (d : Named) (n : ℕ) → n < length files → clash_before (take n files) (slice_index_or files n d) ≡ None

-- Files lead to places at which none of them clashes with another.
pub record AreApart (uses : List Use) : Type 0 where
  pub files : List Named
  pub are : AreOf uses files
  pub none : NoneClashes files

-- Of files that lead to some places, the later one clashes with the earlier one first.
pub record AreOne (uses : List Use) (first second : Role) : Type 0 where
  pub files : List Named
  pub are : AreOf uses files
  pub earlier : ℕ
  pub later : ℕ
  pub clash : (d : Named) → clash_before (take later files) (slice_index_or files later d) ≡ Some earlier
  pub first_is : (d : Use) → (slice_index_or uses earlier d).role ≡ first
  pub second_is : (d : Use) → (slice_index_or uses later d).role ≡ second

-- It tells two files that are one, or want of memory.
abbrev pub TellsOneFile : List Use → Stop → Type 0
TellsOneFile uses (OneFile first second) = AreOne uses first second
TellsOneFile uses (Refused fault) = fault.number ≡ 90
