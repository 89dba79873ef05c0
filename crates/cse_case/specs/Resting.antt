-- What holds of a reader between calls, and what the end of the file does to the run that is gathered.
use Rattle.std.specs.Prelude.{◌≡◌, ◌+◌, ◌*◌, ◌^◌, ◌<◌, ◌≤◌, ℕ, Bool, false, List, [], length, Option, None, Some, unwrap_or}
use Rattle.cse_dict.specs.Dictionary.{DictionaryText}
use Rattle.cse_case.specs.NamedColumns.{LayoutText, layout_of}
use Rattle.cse_case.specs.Run.{RunText}
use Rattle.cse_case.specs.Reader.{ReaderText, is_front}
use Rattle.cse_case.specs.Gathering.{Gathered}

-- a reader of these parts, without an error
abbrev pub reader_of : DictionaryText → RunText → List ℕ → Bool → ℕ → ℕ → ReaderText
reader_of d run uncut ended reads lines = record { dictionary = d; run = run; uncut = uncut; ended = ended; reads = reads; lines = lines; error = None }

-- It holds one line at most, as the file has it, and what one read gave at most. A read gives 65,536 bytes at most and each line has a byte, so
-- that lines can be counted.
pub record IsResting (r : ReaderText) : Type 0 where
  pub gathered : Gathered r.dictionary (is_front r) r.ended r.run.first_line r.run r.uncut
  pub number : r.run.first_line ≡ r.lines + 1
  pub one : length r.run.lines ≤ 1
  pub bytes : length r.uncut ≤ 65536
  pub few_reads : r.reads ≤ 2 ^ 40
  pub few_lines : r.lines + (length r.run.lines + length r.uncut) ≤ r.reads * 65536

-- the layout that is kept is the dictionary's
abbrev pub IsLayoutOf : DictionaryText → Option LayoutText → Type 0
IsLayoutOf d layout = unwrap_or layout (layout_of d) ≡ layout_of d

-- at the end of the file the run that is gathered is the last
pub record GivesRest (old new run : RunText) : Type 0 where
  pub some : 0 < length old.lines
  pub is : run ≡ old
  pub lines : new.lines ≡ []
  pub marked : new.marked ≡ false
  pub first_line : new.first_line ≡ old.first_line + length old.lines

pub record HasNoRest (old new : RunText) : Type 0 where
  pub lines : old.lines ≡ []
  pub is : new ≡ old

abbrev pub TakesRest : RunText → RunText → Option RunText → Type 0
TakesRest old new None = HasNoRest old new
TakesRest old new (Some run) = GivesRest old new run

-- what holds of a reader between calls
pub record IsKept (d : DictionaryText) (layout : Option LayoutText) (run : RunText) (uncut : List ℕ) (ended : Bool) (reads lines : ℕ) : Type 0 where
  pub rests : IsResting (reader_of d run uncut ended reads lines)
  pub has_layout : IsLayoutOf d layout
