-- The table of a run's occurrences: for each record how many lines were counted, and where the lines of its
-- occurrences begin, in one list.
use Rattle.std.specs.Prelude.{◌≡◌, ◌<◌, ◌≤◌, ℕ, ◌+◌, min, List, length, map, take, drop, slice_index, count_by, Option, None}
use Rattle.std.specs.List.{slice_index_or}
use Rattle.cse_value.specs.declared.shape.RecordShape.{RecordShape}
use Rattle.cse_case.specs.declared.line.Line.{Line}
use Rattle.cse_case.specs.declared.seen.OccurrenceSpan.{OccurrenceSpan}
use Rattle.cse_value.specs.Occurrences.{most_occurrences}
use Rattle.cse_case.specs.Seen.{is_of, occurrence_places, places_from}

-- the record of each line
abbrev pub types_in : List Line → List (Option ℕ)
types_in lines = map (λ l. l.record_number) lines

abbrev pub type_at : List Line → ℕ → Option ℕ
type_at lines place = slice_index_or (types_in lines) place None

-- where the line at a place begins among the columns of its run
abbrev pub first_at : List Line → ℕ → ℕ
first_at lines place = slice_index (map (λ l. l.first) lines) place

-- how many of these lines are occurrences of each record
pub record AreCounts (records : List RecordShape) (lines : List (Option ℕ)) (counts : List ℕ) : Type 0 where
  pub size : length counts ≡ length records
  pub each : (r : ℕ) → r < length records → slice_index counts r ≡ min (count_by (is_of r) lines) (most_occurrences records r)

-- the span holds where so many lines of a record begin
pub record IsSpan (lines : List Line) (firsts : List ℕ) (r : ℕ) (span : OccurrenceSpan) : Type 0 where
  pub firsts_are : take span.count (drop span.start firsts) ≡ map (first_at lines) (take span.count (places_from 0 r (types_in lines)))
  pub fits : span.start + span.count ≤ length firsts

-- the spans of the records, in order
abbrev pub AreSpans : List Line → List ℕ → List ℕ → List OccurrenceSpan → Type 0
AreSpans lines counts firsts spans = (r : ℕ) (span : OccurrenceSpan) → r < length spans → span ≡ slice_index_or spans r span → IsSpan lines firsts r span × (span.count ≡ slice_index counts r)

-- the spans of the occurrences among the lines before a place
pub record AreSeen (records : List RecordShape) (lines : List Line) (before : ℕ) (firsts : List ℕ) (spans : List OccurrenceSpan) : Type 0 where
  pub counts : AreCounts records (take before (types_in lines)) (map (λ s. s.count) spans)
  pub spans_are : (r : ℕ) (span : OccurrenceSpan) → r < length spans → span ≡ slice_index_or spans r span → IsSpan lines firsts r span

-- the occurrences of each record
pub record IsTable (records : List RecordShape) (lines : List Line) (firsts : List ℕ) (spans : List OccurrenceSpan) : Type 0 where
  pub size : length spans ≡ length records
  pub firsts_are : (r : ℕ) (span : OccurrenceSpan) → r < length spans → span ≡ slice_index_or spans r span → take span.count (drop span.start firsts) ≡ map (first_at lines) (occurrence_places records r (types_in lines))
  pub fits : (r : ℕ) (span : OccurrenceSpan) → r < length spans → span ≡ slice_index_or spans r span → span.start + span.count ≤ length firsts
