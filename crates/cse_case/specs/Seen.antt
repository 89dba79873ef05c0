-- Which lines of a run are seen, and as which occurrence of their record. A line whose type is no record's
-- is unseen (unknown), and so is one past MaxRecords of its record (extra); the others are the occurrences
-- of their records, numbered from 1. A run is told by the records of its lines, in order.
use Rattle.std.specs.Prelude.{ℕ, ◌+◌, Bool, false, ◌==◌, nat_lt, List, [], ◌∷◌, ◌++◌, length, take, count_by, Option, None, Some, if◌then◌else◌}
use Rattle.cse_value.specs.declared.shape.RecordShape.{RecordShape}
use Rattle.cse_value.specs.Occurrences.{most_occurrences}
use Rattle.cse_dict.specs.declared.lookup.Unseen.{Unseen}
use Rattle.cse_dict.specs.declared.lookup.Unseen.TheVariants.{Unknown, Extra}

-- the line is one of the record's
abbrev pub is_of : ℕ → Option ℕ → Bool
is_of r None = false
is_of r (Some n) = n == r

-- the places of a record's lines, the first line standing at place n
abbrev pub places_from : ℕ → ℕ → List (Option ℕ) → List ℕ
places_from n r [] = []
places_from n r (line ∷ lines) = if is_of r line then n ∷ places_from (n + 1) r lines else places_from (n + 1) r lines

-- the places, from 0, of the occurrences of a record: those of its lines, at most MaxRecords
unfoldable pub occurrence_places : List RecordShape → ℕ → List (Option ℕ) → List ℕ
occurrence_places records r lines = take (most_occurrences records r) (places_from 0 r lines)

-- how many occurrences a record has
abbrev pub occurrences : List RecordShape → ℕ → List (Option ℕ) → ℕ
occurrences records r lines = length (occurrence_places records r lines)

-- why a line is unseen that comes after these lines of its run, if it is
abbrev pub unseen_after : List RecordShape → List (Option ℕ) → Option ℕ → Option Unseen
unseen_after records before None = Some Unknown
unseen_after records before (Some r) = if nat_lt (count_by (is_of r) before) (most_occurrences records r) then None else Some Extra

abbrev pub onto_unseen : ℕ → Option Unseen → List (ℕ × Unseen) → List (ℕ × Unseen)
onto_unseen n None unseen = unseen
onto_unseen n (Some why) unseen = (n, why) ∷ unseen

-- the unseen lines among lines that come after others of their run, each with its number in the file
abbrev pub unseen_from : List RecordShape → ℕ → List (Option ℕ) → List (Option ℕ) → List (ℕ × Unseen)
unseen_from records n before [] = []
unseen_from records n before (line ∷ lines) = onto_unseen n (unseen_after records before line) (unseen_from records (n + 1) (before ++ line ∷ []) lines)

-- the unseen lines of a run whose first line has this number
unfoldable pub unseen_of : List RecordShape → ℕ → List (Option ℕ) → List (ℕ × Unseen)
unseen_of records number lines = unseen_from records number [] lines

-- a run is a case if it has a seen line
unfoldable pub is_case : List RecordShape → List (Option ℕ) → Bool
is_case records lines = nat_lt (length (unseen_of records 1 lines)) (length lines)
