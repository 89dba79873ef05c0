-- What a run over a data file counts: the runs that are cases, all lines, and the unseen lines.
use Rattle.std.specs.Prelude.{ℕ, Bool, List, length, map, sum_by, count_by}
use Rattle.cse_dict.specs.Dictionary.{DictionaryText, shape_of}
use Rattle.cse_case.specs.Line.{FileLine}
use Rattle.cse_case.specs.Columns.{line_text}
use Rattle.cse_case.specs.Case.{types_of}
use Rattle.cse_case.specs.Seen.{is_case, unseen_of}
use Rattle.cse_batch_parts.specs.declared.totals.Totals.{Totals}

-- a run is a case
abbrev pub is_case_run : DictionaryText → List FileLine → Bool
is_case_run d run = is_case (shape_of d).records (types_of (map (line_text d) run))

-- how many lines of a run are unseen
abbrev pub unseen_in : DictionaryText → List FileLine → ℕ
unseen_in d run = length (unseen_of (shape_of d).records 1 (types_of (map (line_text d) run)))

-- the totals of some runs
abbrev pub totals_of : DictionaryText → List (List FileLine) → Totals
totals_of d runs = record { cases = count_by (is_case_run d) runs; lines = sum_by length runs; unseen = sum_by (unseen_in d) runs }
