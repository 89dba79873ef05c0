-- What one call of the reader of cases answers.
use Rattle.std.specs.Prelude.{◌≡◌, ◌+◌, ◌≤◌, ℕ, Bool, true, List, [], ◌++◌, length, Option, None, Some, Result, Ok, Err, IfOk}
use Rattle.cse_value.specs.Device.{Consumes, Given}
use Rattle.cse_dict.specs.Dictionary.{DictionaryText}
use Rattle.cse_case.specs.declared.error.DataError.{DataError}
use Rattle.cse_case.specs.Reader.{ReaderText, GivesRun, IsEnd, IsError, held_of, is_front}
use Rattle.cse_case.specs.Case.{CaseText, case_of}
use Rattle.cse_case.specs.Fit.{IsFit}

-- The bytes are the lines of the case and then the held ones; the case is that of the first run that is given of them; and it fits.
pub record GivesCase (d : DictionaryText) (bytes held : List ℕ) (front ended : Bool) (number : ℕ) (c : CaseText) : Type 0 where
  pub run : GivesRun d bytes held front ended number c.run
  pub is : c ≡ case_of d number run.lines
  pub fits : IsFit c

-- what the answer says of the bytes held before and read in the call
abbrev pub CaseAnswers : DictionaryText → List ℕ → List ℕ → Bool → Bool → Given → ℕ → Result (Option CaseText) DataError → Type 0
CaseAnswers d bytes held front ended after before (Ok (Some c)) = GivesCase d bytes held front ended (before + 1) c
CaseAnswers d bytes held front ended after before (Ok None) = IsEnd bytes held ended after
CaseAnswers d bytes held front ended after before (Err error) = IsError d bytes front ended before error

-- how many lines an answer gives
abbrev pub lines_given : Option CaseText → ℕ
lines_given (Some c) = length c.run.lines
lines_given None = 0

-- one call: the bytes that were read in it, none once the end was read, and what it answers of these behind the held ones
pub record NextCase (before after : Given) (old new : ReaderText) (result : Result (Option CaseText) DataError) : Type 0 where
  pub taken : List ℕ
  pub consumes : Consumes before after taken
  pub rises : old.reads ≤ new.reads
  pub counted : new.reads ≤ old.reads + length taken
  pub stays : old.ended ≡ true → (taken ≡ []) × (new.ended ≡ true)
  pub dictionary : new.dictionary ≡ old.dictionary
  pub lines : IfOk result (λ given. new.lines ≡ old.lines + lines_given given)
  pub answers : CaseAnswers old.dictionary (held_of old ++ taken) (held_of new) (is_front old) new.ended after old.lines result
