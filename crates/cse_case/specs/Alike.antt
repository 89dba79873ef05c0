-- Lines like the one before them.
use Rattle.std.specs.Prelude.{◌≡◌, ◌<◌, ◌-◌, ℕ, Bool, List, length, take, slice_index_or}
use Rattle.std.specs.Str.{IsAscii}
use Rattle.cse_dict.specs.Dictionary.{DictionaryText}
use Rattle.cse_case.specs.declared.line.Line.{Line}
use Rattle.cse_case.specs.Cutting.{HasNoFeed}
use Rattle.cse_case.specs.NamedColumns.{least_width}
use Rattle.cse_case.specs.Gathering.{Gathered}
use Rattle.cse_case.specs.Laid.{laid_lines}
use Rattle.cse_case.specs.Line.{before_end, ending_of}
use Rattle.cse_case.specs.Run.{RunText}
use Rattle.cse_case.specs.Taking.{Gathers}

-- all bytes are ASCII, and none is a line feed
pub record IsPlain (text : List ℕ) : Type 0 where
  pub ascii : IsAscii text
  pub none : HasNoFeed text

-- a line of the form of another, from a place on
abbrev pub line_like : Line → ℕ → Line
line_like last first = record { first = first; width = last.width; len = last.len; ending = last.ending; record_number = last.record_number }

-- bytes that begin so, and have the length and the end of a line
pub record IsLike (begin : List ℕ) (last : Line) (line : List ℕ) : Type 0 where
  pub ending : ending_of line ≡ last.ending
  pub len : length (before_end line) ≡ last.len
  pub begins : take (length begin) (before_end line) ≡ begin
  pub plain : IsPlain (before_end line)

-- this is the last of the lines
pub record IsLastOf (lines : List Line) (last : Line) : Type 0 where
  pub some : 0 < length lines
  pub is : last ≡ slice_index_or lines (length lines - 1) last

-- a run whose lines lie in these columns
abbrev pub laid_run : List ℕ → List Line → Bool → ℕ → RunText
laid_run columns lines marked number = record { lines = laid_lines columns lines; marked = marked; first_line = number }

-- what was gathered goes on with the lines that were cut of the bytes
abbrev pub GoesOnFrom : ℕ → RunText → List ℕ → RunText → List ℕ → Type 0
GoesOnFrom width old bytes new rest = (d : DictionaryText) (first ended : Bool) → least_width d ≡ width → Gathered d first ended old.first_line old bytes → Gathers d first ended old bytes new rest

abbrev pub GathersOn : ℕ → List ℕ → List Line → List ℕ → List ℕ → List Line → List ℕ → Type 0
GathersOn width columns lines bytes now all rest = (marked : Bool) (number : ℕ) → GoesOnFrom width (laid_run columns lines marked number) bytes (laid_run now all marked number) rest
