-- What the table of a run's occurrences becomes by a line more.
use Rattle.std.specs.Prelude.{◌≡◌, ◌<◌, ◌≤◌, ℕ, ◌+◌, List, [], ◌∷◌, ◌++◌, length, take, drop, slice_set, Some}
use Rattle.cse_value.specs.declared.shape.RecordShape.{RecordShape}
use Rattle.cse_case.specs.declared.line.Line.{Line}
use Rattle.cse_case.specs.declared.seen.OccurrenceSpan.{OccurrenceSpan}
use Rattle.cse_case.specs.declared.seen.Found.{Found}
use Rattle.cse_case.specs.declared.seen.Found.TheVariants.{Occurrences, Unseen, Apart}
use Rattle.cse_value.specs.Occurrences.{most_occurrences}
use Rattle.cse_case.specs.Seen.{unseen_after, unseen_from}
use Rattle.cse_case.specs.Table.{AreSeen, type_at, types_in}

-- the span holds one more, which stands at the end of the list
pub record IsLonger (span : OccurrenceSpan) (first : ℕ) (old new : List ℕ) (longer : OccurrenceSpan) : Type 0 where
  pub items : new ≡ old ++ first ∷ []
  pub start : longer.start + span.count ≡ length old
  pub same : 0 < span.count → longer.start ≡ span.start
  pub count : longer.count ≡ span.count + 1

-- all lines from this place up to the next are occurrences, and the table holds them
pub record AreFound (records : List RecordShape) (lines : List Line) (place next : ℕ) (firsts : List ℕ) (spans : List OccurrenceSpan) : Type 0 where
  pub far : place ≤ next
  pub seen : AreSeen records lines next firsts spans
  pub none : (n : ℕ) → unseen_from records (n + place) (take place (types_in lines)) (drop place (types_in lines)) ≡ unseen_from records (n + next) (take next (types_in lines)) (drop next (types_in lines))

-- lines of a record that follow one another, from this place up to the next, were added to its span
abbrev pub GoesOnWith : ℕ → ℕ → List Line → ℕ → OccurrenceSpan → List ℕ → ℕ → OccurrenceSpan → List ℕ → Type 0
GoesOnWith r most lines place span firsts next longer new =
    (records : List RecordShape) (spans : List OccurrenceSpan) → r < length records → most ≡ most_occurrences records r → r < length spans → AreSeen records lines place firsts (slice_set spans r span)
    → AreFound records lines place next new (slice_set spans r longer)

-- occurrences and an unseen line leave the table of the lines up to these; of lines that are apart nothing is said
abbrev pub IsFound : List RecordShape → List Line → ℕ → List ℕ → List OccurrenceSpan → Found → Type 0
IsFound records lines place firsts spans (Occurrences next) = (place < next) × AreFound records lines place next firsts spans
IsFound records lines place firsts spans (Unseen why) = (unseen_after records (take place (types_in lines)) (type_at lines place) ≡ Some why) × AreSeen records lines (place + 1) firsts spans
IsFound records lines place firsts spans Apart = Unit
