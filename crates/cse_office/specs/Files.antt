-- Two files of one dictionary side by side, run of lines beside run of lines: what is counted of all items where they pair up,
-- and why a comparison stops where they don't.
use Rattle.std.specs.Prelude.{◌≡◌, ◌≢◌, ◌<◌, ◌≤◌, ◌⊎◌, ◌^◌, ℕ, ◌+◌, Bool, true, false, map, List, [], ◌∷◌, ◌++◌, length, sum_by, slice_index_or, Option, None, Some}
use Rattle.cse_value.specs.Device.{Consumes, FailsOnce, Given, IsAtEnd, IsUnfailing}
use Rattle.cse_value.specs.declared.shape.ItemShape.{ItemShape}
use Rattle.cse_dict.specs.Dictionary.{DictionaryText, shape_of}
use Rattle.cse_case.specs.declared.error.DataError.{DataError}
use Rattle.cse_case.specs.Line.{FileLine}
use Rattle.cse_case.specs.Columns.{LineText, line_text}
use Rattle.cse_case.specs.Runs.{fault_in, given_runs}
use Rattle.cse_case.specs.Field.{item_at}
use Rattle.cse_office.specs.declared.count.Count.{Count}
use Rattle.cse_office.specs.declared.fault.CompareFault.{CompareFault}
use Rattle.cse_office.specs.declared.fault.CompareFault.TheVariants.{Data, Out, Apart, Memory}
use Rattle.cse_office.specs.declared.fault.SeenFault.{SeenFault}
use Rattle.cse_office.specs.declared.fault.SeenFault.TheVariants.{Compare, Seen}
use Rattle.cse_office.specs.Changes.{count_in, first_apart, no_count, plus}

-- a run that was read, and the one that was written in its place
abbrev pub RunPair : Type 0
RunPair = List FileLine × List FileLine

abbrev pub befores : List RunPair → List (List FileLine)
befores pairs = map (λ p. p.0) pairs

abbrev pub afters : List RunPair → List (List FileLine)
afters pairs = map (λ p. p.1) pairs

-- the lines of a run
abbrev pub lines_of : DictionaryText → List FileLine → List LineText
lines_of d run = map (line_text d) run

-- the place of the first line of two runs that is apart
abbrev pub apart_in : DictionaryText → List FileLine → List FileLine → Option ℕ
apart_in d before after = first_apart (shape_of d).items 0 (lines_of d before) (lines_of d after)

-- all their lines pair up
abbrev pub ArePairs : DictionaryText → List RunPair → Type 0
ArePairs d [] = Unit {0}
ArePairs d (p ∷ ps) = (apart_in d (p.0) (p.1) ≡ None) × ArePairs d ps

-- how often an item occurs in them, and how often it is changed
abbrev pub total : DictionaryText → ItemShape → List RunPair → Count
total d item [] = no_count
total d item (p ∷ ps) = plus (count_in (shape_of d).records item (lines_of d (p.0)) (lines_of d (p.1))) (total d item ps)

-- the counts are those of the items
pub record AreCounts (d : DictionaryText) (pairs : List RunPair) (counts : List Count) : Type 0 where
  pub as_many : length counts ≡ length (shape_of d).items
  pub each : (n : ℕ) → n < length (shape_of d).items → slice_index_or counts n no_count ≡ total d (item_at (shape_of d).items n) pairs

-- A file was read to its end, no read failed, and none of its lines is faulty: these are its runs.
pub record IsRead (d : DictionaryText) (before after : Given) (runs : List (List FileLine)) : Type 0 where
  pub bytes : List ℕ
  pub reads : Consumes before after bytes
  pub end : IsAtEnd after
  pub unfailing : IsUnfailing before after
  pub sound : fault_in d true true bytes ≡ None
  pub runs_are : given_runs d true true bytes ≡ runs

-- So far a file was read, no read failed, and these are the runs of it that are given.
pub record IsReadSoFar (d : DictionaryText) (before after : Given) (runs : List (List FileLine)) : Type 0 where
  pub bytes : List ℕ
  pub ended : Bool
  pub reads : Consumes before after bytes
  pub end : ended ≡ true → IsAtEnd after
  pub unfailing : IsUnfailing before after
  pub runs_are : given_runs d true ended bytes ≡ runs

-- Both were read to their ends, all lines pair up, and the counts are those of all runs.
pub record IsCompared (d : DictionaryText) (before after before' after' : Given) (counts : List Count) : Type 0 where
  pub pairs : List RunPair
  pub read : IsRead d before after (befores pairs)
  pub written : IsRead d before' after' (afters pairs)
  pub are_pairs : ArePairs d pairs
  pub counts_are : AreCounts d pairs counts

-- how many lines the first runs have
abbrev pub lines_in : List RunPair → ℕ
lines_in pairs = sum_by (λ p. length (p.0)) pairs

-- in which line of the next runs they are apart; of two runs it is the first such line, and of one that has none beside it the first one
abbrev pub apart_next : DictionaryText → List (List FileLine) → List (List FileLine) → Option ℕ
apart_next d [] [] = None
apart_next d [] (after ∷ afters) = Some 0
apart_next d (before ∷ befores) [] = Some 0
apart_next d (before ∷ befores) (after ∷ afters) = apart_in d before after

-- The lines of some runs pair up, and then comes one that is apart, by its number in the file: either both files give a next run, and these are
-- apart, or one has ended, and the other gives a run.
pub record IsApart (d : DictionaryText) (before after before' after' : Given) (line : ℕ) : Type 0 where
  pub pairs : List RunPair
  pub are_pairs : ArePairs d pairs
  pub more : List (List FileLine)
  pub more' : List (List FileLine)
  pub read : IsReadSoFar d before after (befores pairs ++ more)
  pub written : IsReadSoFar d before' after' (afters pairs ++ more')
  pub read_ended : more ≡ [] → read.ended ≡ true
  pub written_ended : more' ≡ [] → written.ended ≡ true
  pub place : ℕ
  pub apart : apart_next d more more' ≡ Some place
  pub line_is : line ≡ lines_in pairs + place + 1

-- So far a file was read, and it has a fault, or gives no more bytes: 20 to 22 are those of its first faulty line, 70 comes only where a read is needed,
-- and then one read failed, the last, or 2^40 reads gave bytes; another fault is want of memory, and no other fault is of a read that failed. All runs
-- that are given before are these, unless memory lacks.
pub record HasFault (d : DictionaryText) (before after : Given) (runs : List (List FileLine)) (error : DataError) : Type 0 where
  pub bytes : List ℕ
  pub ended : Bool
  pub reads : Consumes before after bytes
  pub end : ended ≡ true → IsAtEnd after
  pub faulty : error.number < 70 → (place : ℕ) × ((fault_in d true ended bytes ≡ Some (place, error.number)) × (error.line ≡ place + 1))
  pub needed : error.number ≡ 70 → (ended ≡ false) × (fault_in d true ended bytes ≡ None)
  pub runs_are : (error.number < 70) ⊎ (error.number ≡ 70) → given_runs d true ended bytes ≡ runs
  pub reading : error.number ≡ 70 → FailsOnce before after ⊎ (2 ^ 40 ≤ length bytes)
  pub unfailing : error.number ≢ 70 → IsUnfailing before after
  pub other : 70 ≤ error.number → (error.number ≡ 70) ⊎ (error.number ≡ 90)
  pub no_line : 70 ≤ error.number → error.line ≡ 0

-- All lines of the runs before pair up, and then the file that was read has the fault.
pub record HasReadFault (d : DictionaryText) (before after before' after' : Given) (error : DataError) : Type 0 where
  pub pairs : List RunPair
  pub are_pairs : ArePairs d pairs
  pub more : List (List FileLine)
  pub read : HasFault d before after (befores pairs) error
  pub written : IsReadSoFar d before' after' (afters pairs ++ more)

-- So has the one that was written.
pub record HasWrittenFault (d : DictionaryText) (before after before' after' : Given) (error : DataError) : Type 0 where
  pub pairs : List RunPair
  pub are_pairs : ArePairs d pairs
  pub more : List (List FileLine)
  pub read : IsReadSoFar d before after (befores pairs ++ more)
  pub written : HasFault d before' after' (afters pairs) error

-- why a comparison stopped
abbrev pub Stops : DictionaryText → Given → Given → Given → Given → CompareFault → Type 0
Stops d before after before' after' (Data error) = HasReadFault d before after before' after' error
Stops d before after before' after' (Out error) = HasWrittenFault d before after before' after' error
Stops d before after before' after' (Apart line) = IsApart d before after before' after' line
Stops d before after before' after' Memory = Unit {0}

-- why one stopped that is watched; where the watcher stops it, nothing is said
abbrev pub StopsSeen : {E : Type 0} → DictionaryText → Given → Given → Given → Given → SeenFault E → Type 0
StopsSeen d before after before' after' (Compare fault) = Stops d before after before' after' fault
StopsSeen d before after before' after' (Seen e) = Unit {0}

-- of two runs: no fault but one of a line that is apart
abbrev pub IfApart : (ℕ → Type 0) → CompareFault → Type 0
IfApart P (Data error) = ⊥
IfApart P (Out error) = ⊥
IfApart P (Apart line) = P line
IfApart P Memory = ⊥

-- and of two runs that are watched
abbrev pub IfSeenApart : {E : Type 0} → (ℕ → Type 0) → SeenFault E → Type 0
IfSeenApart P (Compare fault) = IfApart P fault
IfSeenApart P (Seen e) = Unit {0}

-- of two runs that come after so many lines: the line that is apart
pub record IsApartIn (items : List ItemShape) (before after : List LineText) (lines line : ℕ) : Type 0 where
  pub place : ℕ
  pub apart : first_apart items 0 before after ≡ Some place
  pub line_is : line ≡ lines + place + 1
