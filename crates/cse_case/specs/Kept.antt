-- What a case keeps beside its lines: where they lie, their bytes until one is written into, and the table of its occurrences and unseen lines. It
-- has a line, and each line has its width.
use Rattle.std.specs.Prelude.{◌≡◌, ◌<◌, ℕ, max, Bool, false, List, length, map, slice_index_or}
use Rattle.std.specs.List.{flat_map}
use Rattle.cse_dict.specs.Dictionary.{DictionaryText, shape_of}
use Rattle.cse_dict.specs.declared.lookup.Unseen.{Unseen}
use Rattle.cse_case.specs.declared.line.Line.{Line}
use Rattle.cse_case.specs.NamedColumns.{least_width, record_len}
use Rattle.cse_case.specs.Laid.{IsLaid, laid_lines}
use Rattle.cse_case.specs.Written.{written_line}
use Rattle.cse_case.specs.declared.seen.OccurrenceSpan.{OccurrenceSpan}
use Rattle.cse_case.specs.Seen.{unseen_of}
use Rattle.cse_case.specs.Table.{IsTable}

-- each line has its width
abbrev pub AreWide : DictionaryText → List Line → Type 0
AreWide d lines = (place : ℕ) (line : Line) → place < length lines → line ≡ slice_index_or lines place line → line.width ≡ max line.len (max (least_width d) (record_len d line.record_number))

pub record IsKept (d : DictionaryText) (columns : List ℕ) (lines : List Line) (bytes : List ℕ) (is_set : Bool) (first_line : ℕ) (firsts : List ℕ) (spans : List OccurrenceSpan) (unseen : List (ℕ × Unseen)) : Type 0 where
  pub some : 0 < length lines
  pub wide : AreWide d lines
  pub laid : IsLaid 0 columns lines
  pub came : is_set ≡ false → bytes ≡ flat_map written_line (laid_lines columns lines)
  pub table : IsTable (shape_of d).records lines firsts spans
  pub unseen_are : unseen ≡ unseen_of (shape_of d).records first_line (map (λ l. l.record_number) lines)
