-- An order file: the name of a record on each line, each record at most once; empty lines say nothing.
use Rattle.std.specs.Prelude.{◌≡◌, ℕ, ◌+◌, nat_lt, nat_eq, Bool, List, [], ◌∷◌, ◌++◌, length, map, if◌then◌else◌, Option, Some, None, Result, Ok, Err, ◌⊎◌}
use Rattle.std.specs.List.{filter, list_any, IsDistinct}
use Rattle.std.specs.Str.{is_utf8}
use Rattle.cse_dict.specs.Dictionary.{DictionaryText, number_named, record_names}
use Rattle.cse_logic_names.specs.declared.error.TypeError.{TypeError}
use Rattle.cse_logic_names.specs.declared.error.FileStop.{FileStop}
use Rattle.cse_logic_names.specs.declared.error.FileStop.TheVariants.{Memory, Fault}
use Rattle.cse_logic_names.specs.Fault.{at_line, out_of_memory}

-- the record that a line names, in any letter case
unfoldable pub record_in : DictionaryText → List ℕ → Option ℕ
record_in d line = if is_utf8 line then number_named line (record_names d) else None

-- a line that isn't empty
abbrev pub is_there : List ℕ → Bool
is_there line = nat_lt 0 (length line)

-- the lines that aren't empty name these records, in this order, each record at most once
pub record IsOrder (d : DictionaryText) (lines : List (List ℕ)) (records : List ℕ) : Type 0 where
  pub named : map (record_in d) (filter is_there lines) ≡ map Some records
  pub once : IsDistinct nat_eq records

-- records that an order file names
abbrev pub IsOrderOf : DictionaryText → List ℕ → Type 0
IsOrderOf d records = (lines : List (List ℕ)) × IsOrder d lines records

-- the line of this number, counted from 1, is the first that is faulty: the lines before it are those of an
-- order file, and no order file begins with these and the line
pub record FirstFaulty (d : DictionaryText) (lines : List (List ℕ)) (number : ℕ) : Type 0 where
  pub before : List (List ℕ)
  pub faulty : List ℕ
  pub after : List (List ℕ)
  pub lines_are : lines ≡ before ++ faulty ∷ after
  pub number_is : number ≡ length before + 1
  pub records : List ℕ
  pub fine : IsOrder d before records
  pub wrong : (more : List (List ℕ)) (others : List ℕ) → IsOrder d (before ++ faulty ∷ more) others → ⊥

-- the records of an order file; else its first faulty line, unless memory ran out
abbrev pub ReadsOrder : DictionaryText → Result (List ℕ) TypeError → List (List ℕ) → Type 0
ReadsOrder d (Ok records) lines = IsOrder d lines records
ReadsOrder d (Err e) lines = (e ≡ out_of_memory) ⊎ ((e ≡ at_line 40 e.line) × FirstFaulty d lines e.line)

-- ---- from line to line

-- one record more, which isn't there yet
abbrev pub with_record : List ℕ → Option ℕ → Option (List ℕ)
with_record found None = None
with_record found (Some r) = if list_any (λ x. nat_eq x r) found then None else Some (found ++ r ∷ [])

unfoldable pub order_line : DictionaryText → List ℕ → List ℕ → Option (List ℕ)
order_line d found line = if is_there line then with_record found (record_in d line) else Some found

-- a line is taken, or it is faulty, or memory ran out
abbrev pub TakesRecord : Result (Unit {0}) FileStop → List ℕ → List ℕ → DictionaryText → List ℕ → Type 0
TakesRecord (Ok done) old new d line = order_line d old line ≡ Some new
TakesRecord (Err Memory) old new d line = Unit {0}
TakesRecord (Err (Fault number)) old new d line = (number ≡ 40) × (order_line d old line ≡ None)
