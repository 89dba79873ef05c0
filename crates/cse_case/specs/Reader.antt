-- A reader of runs: what it holds between calls, and what one call of it answers.
use Rattle.std.specs.Prelude.{◌≡◌, ◌+◌, ◌<◌, ◌≤◌, ◌==◌, ◌⊎◌, ℕ, Bool, true, false, List, [], ◌∷◌, ◌++◌, length, Option, None, Some, Result, Ok, Err}
use Rattle.std.specs.List.{flat_map}
use Rattle.cse_value.specs.Device.{Consumes, IsAtEnd, Given}
use Rattle.cse_dict.specs.Dictionary.{DictionaryText}
use Rattle.cse_case.specs.declared.error.DataError.{DataError}
use Rattle.cse_case.specs.Line.{FileLine}
use Rattle.cse_case.specs.Columns.{LineText}
use Rattle.cse_case.specs.Run.{RunText, run_text, written_run}
use Rattle.cse_case.specs.Runs.{AreSound, given_runs, fault_in, later_by, MayFollow}

-- what a reader holds: its dictionary, the lines that are cut and not yet given, the bytes behind them that aren't cut, whether the end was read,
-- how many reads gave bytes, how many lines were given, and the error that it answers from now on
pub record ReaderText : Type 0 where
  pub dictionary : DictionaryText
  pub run : RunText
  pub uncut : List ℕ
  pub ended : Bool
  pub reads : ℕ
  pub lines : ℕ
  pub error : Option DataError

-- the bytes that were read and not yet given
abbrev pub held_of : ReaderText → List ℕ
held_of r = written_run r.run ++ r.uncut

-- a reader that has given no line stands at the front of the file
abbrev pub is_front : ReaderText → Bool
is_front r = r.lines == 0

-- the lines that an answer gives
abbrev pub given_lines : Result (Option RunText) DataError → List LineText
given_lines (Ok (Some run)) = run.lines
given_lines (Ok None) = []
given_lines (Err error) = []

-- The bytes are the lines of the run, of which none is faulty, and then the held ones. The run is the first that is given of them, and the rest is given of what is held
-- and may follow.
pub record GivesRun (d : DictionaryText) (bytes held : List ℕ) (front ended : Bool) (number : ℕ) (run : RunText) : Type 0 where
  pub lines : List FileLine
  pub some : 0 < length lines
  pub sound : AreSound lines
  pub is : run ≡ run_text d number lines
  pub written : written_run run ≡ flat_map (λ line. line.1) lines
  pub whole : bytes ≡ written_run run ++ held
  pub first : (later : Bool) (more : List ℕ) → MayFollow ended later more → given_runs d front later (bytes ++ more) ≡ lines ∷ given_runs d false later (held ++ more)
  pub fault : (later : Bool) (more : List ℕ) → MayFollow ended later more
      → fault_in d front later (bytes ++ more) ≡ later_by (length lines) (fault_in d false later (held ++ more))

-- nothing is left
pub record IsEnd (bytes held : List ℕ) (ended : Bool) (after : Given) : Type 0 where
  pub none : bytes ≡ []
  pub none_held : held ≡ []
  pub read : ended ≡ true
  pub end : IsAtEnd after

-- the bytes have this faulty line, before which so many lines and others of the bytes stand, and no run is given of them
pub record IsFaulty (d : DictionaryText) (bytes : List ℕ) (front ended : Bool) (before : ℕ) (error : DataError) : Type 0 where
  pub place : ℕ
  pub fault : fault_in d front ended bytes ≡ Some (place, error.number)
  pub line : error.line ≡ before + place + 1
  pub none : given_runs d front ended bytes ≡ []

-- the bytes have no answer yet, so that a read is needed: the end wasn't read, no run is given of them, and none of their lines is faulty
pub record NeedsMore (d : DictionaryText) (bytes : List ℕ) (front ended : Bool) : Type 0 where
  pub unended : ended ≡ false
  pub none : given_runs d front ended bytes ≡ []
  pub sound : fault_in d front ended bytes ≡ None

-- an error: the fault of a line, or 70 or 90 without a line. 70 comes only where a read is needed, however the device stood before the call.
pub record IsError (d : DictionaryText) (bytes : List ℕ) (front ended : Bool) (before : ℕ) (error : DataError) : Type 0 where
  pub faulty : error.number < 70 → IsFaulty d bytes front ended before error
  pub needed : error.number ≡ 70 → NeedsMore d bytes front ended
  pub number : 70 ≤ error.number → (error.number ≡ 70) ⊎ (error.number ≡ 90)
  pub line : 70 ≤ error.number → error.line ≡ 0

-- what the answer says of the bytes held before and read in the call
abbrev pub Answers : DictionaryText → List ℕ → List ℕ → Bool → Bool → Given → ℕ → Result (Option RunText) DataError → Type 0
Answers d bytes held front ended after before (Ok (Some run)) = GivesRun d bytes held front ended (before + 1) run
Answers d bytes held front ended after before (Ok None) = IsEnd bytes held ended after
Answers d bytes held front ended after before (Err error) = IsError d bytes front ended before error

-- one call: the bytes that were read in it, none once the end was read, and what it answers of these behind the held ones
pub record Next (before after : Given) (old new : ReaderText) (result : Result (Option RunText) DataError) : Type 0 where
  pub taken : List ℕ
  pub consumes : Consumes before after taken
  pub rises : old.reads ≤ new.reads
  pub counted : new.reads ≤ old.reads + length taken
  pub stays : old.ended ≡ true → (taken ≡ []) × (new.ended ≡ true)
  pub dictionary : new.dictionary ≡ old.dictionary
  pub lines : new.lines ≡ old.lines + length (given_lines result)
  pub answers : Answers old.dictionary (held_of old ++ taken) (held_of new) (is_front old) new.ended after old.lines result

-- what a reader holds between calls: a line that is cut, and 65,536 bytes that aren't, at most
pub record HoldsLittle (r : ReaderText) : Type 0 where
  pub lines : length r.run.lines ≤ 1
  pub bytes : length r.uncut ≤ 65536
