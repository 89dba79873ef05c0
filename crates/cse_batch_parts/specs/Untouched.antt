-- The untouched promise: what a batch writes in place of the lines that it read. A column changes only where a step of an
-- event of its own case wrote it, into an item that has the column, in the occurrence that is the line. Ids, record types and
-- ends never change, and a line into which no step wrote is written byte for byte, as each unseen line is.
use Rattle.std.specs.Prelude.{◌≡◌, ◌⊎◌, ℕ, ◌+◌, Bool, true, false, List, [], ◌∷◌, ◌++◌, length, map, slice_get, slice_index_or, encode_utf8_all, Some, None}
use Rattle.std.specs.List.{flat_map}
use Rattle.cse_image_parts.specs.declared.instruction.Instr.{Instr}
use Rattle.cse_dict.specs.Dictionary.{DictionaryText}
use Rattle.cse_case.specs.Line.{FileLine, end_bytes, ending_of, is_marked}
use Rattle.cse_case.specs.Columns.{columns_of, id_of, line_text}
use Rattle.cse_case.specs.NamedColumns.{field_at, ids_of, type_span}
use Rattle.cse_case.specs.Written.{kept_columns, mark_bytes}
use Rattle.cse_case.specs.Runs.{fault_in, given_runs}
use Rattle.cse_case.specs.Gathering.{bytes_of}
use Rattle.cse_case.specs.Case.{CaseText, case_of, records_of, types_of}
use Rattle.cse_case.specs.Seen.{is_case}
use Rattle.cse_case.specs.Sight.{IsUnseenAt}
use Rattle.cse_decks.specs.Store.{Kept, StoreFits}
use Rattle.cse_code_typing.specs.Code.{code_of}
use Rattle.cse_verify.specs.Verified.{VerifiedProgram}
use Rattle.cse_steps.specs.Columns.{is_write}
use Rattle.cse_steps.specs.Events.{IsWrittenIn}
use Rattle.cse_batch_parts.specs.Events.{events_of}
use Rattle.cse_batch_parts.specs.Batch.{Progress, after_run, batch, begun}

-- a step of one of the case's events writes this column of the line at this place, both from 0
abbrev pub IsTouched : VerifiedProgram → Kept → CaseText → ℕ → ℕ → Type 0
IsTouched v store t place column = IsWrittenIn v (events_of v t) (Some t) store place column

-- A line that is written in place of one that was read. It is as wide, and each column is as it was or was touched; those of
-- the ids and the record type are as they were. It is written without the blanks at its end past its length in the file, in
-- UTF-8, with its own end. Where no column was touched its bytes are those that were read.
pub record LineStays (d : DictionaryText) (Touched : ℕ → Type 0) (read : FileLine) (written : List ℕ) : Type 0 where
  pub columns : List ℕ
  pub width : length columns ≡ length (line_text d read).columns
  pub stays : (column : ℕ) → (slice_index_or columns column 32 ≡ slice_index_or (line_text d read).columns column 32) ⊎ Touched column
  pub ids : ids_of d columns ≡ id_of d read
  pub record_type : field_at (type_span d) columns ≡ field_at (type_span d) (line_text d read).columns
  pub bytes : written ≡ mark_bytes (is_marked read) ++ (encode_utf8_all (kept_columns (length (columns_of read)) columns) ++ end_bytes (ending_of (read.1)))
  pub untouched : ((column : ℕ) → Touched column → ⊥) → written ≡ read.1

-- The lines that are written in place of a run, one for each, in order. The unseen ones are as they were read, and so are all
-- of a run that is no case.
pub record RunStays (v : VerifiedProgram) (store : Kept) (number : ℕ) (lines : List FileLine) (written : List (List ℕ)) : Type 0 where
  pub as_many : length written ≡ length lines
  pub each : (place : ℕ) (read : FileLine) (line : List ℕ) → slice_get lines place ≡ Some read → slice_get written place ≡ Some line
      → LineStays v.dictionary (IsTouched v store (case_of v.dictionary number lines) place) read line
  pub unseen : (place : ℕ) (read : FileLine) (line : List ℕ) → slice_get lines place ≡ Some read → slice_get written place ≡ Some line
      → IsUnseenAt (case_of v.dictionary number lines) place → line ≡ read.1
  pub no_case : (let t = case_of v.dictionary number lines in is_case (records_of t) (types_of t.run.lines) ≡ false) → written ≡ map (λ read. read.1) lines

-- in place of runs, one after the other, each from the store that the one before left
abbrev pub RunsStay : VerifiedProgram → Progress → List (List FileLine) → List (List (List ℕ)) → Type 0
RunsStay v p [] [] = Unit {0}
RunsStay v p [] (lines ∷ written) = ⊥
RunsStay v p (run ∷ runs) [] = ⊥
RunsStay v p (run ∷ runs) (lines ∷ written) = RunStays v p.store (p.lines + 1) run lines × RunsStay v (after_run v p run) runs written

-- OUT is what is written in place of the runs that are given, and nothing else; of sound data that has ended they are all of it.
pub record OutStays (v : VerifiedProgram) (store : Kept) (bytes : List ℕ) (ended : Bool) : Type 0 where
  pub written : List (List (List ℕ))
  pub out : (batch v store bytes ended).out ≡ flat_map (flat_map (λ line. line)) written
  pub runs : RunsStay v (begun v store) (given_runs v.dictionary true ended bytes) written
  pub all : ended ≡ true → fault_in v.dictionary true ended bytes ≡ None → flat_map bytes_of (given_runs v.dictionary true ended bytes) ≡ bytes

-- The law, of whatever is read: sound lines or faulty ones, to the end or not.
abbrev pub UntouchedColumnsStay : VerifiedProgram → Type 0
UntouchedColumnsStay v = (store : Kept) (bytes : List ℕ) (ended : Bool) → StoreFits v.image store → OutStays v store bytes ended

-- ---- checks alone

-- no instruction of the program writes an item
abbrev pub OnlyChecks : VerifiedProgram → Type 0
OnlyChecks v = (routine place : ℕ) (i : Instr) → slice_get (code_of v.image routine) place ≡ Some i → is_write i.op ≡ false

-- Such a program writes the file back, byte for byte.
abbrev pub ChecksChangeNothing : VerifiedProgram → Type 0
ChecksChangeNothing v = (store : Kept) (bytes : List ℕ) → OnlyChecks v → StoreFits v.image store → fault_in v.dictionary true true bytes ≡ None → (batch v store bytes true).out ≡ bytes
