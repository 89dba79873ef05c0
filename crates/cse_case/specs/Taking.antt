-- What a line does to the run that is gathered, and what all lines that are there do to it.
use Rattle.std.specs.Prelude.{◌≡◌, ◌+◌, ◌-◌, ◌<◌, ◌≤◌, ◌⊎◌, ℕ, Bool, true, false, List, [], ◌∷◌, ◌++◌, length, take, Option, None, Some}
use Rattle.cse_dict.specs.Dictionary.{DictionaryText}
use Rattle.cse_case.specs.declared.decode.Beginning.{Beginning}
use Rattle.cse_case.specs.declared.decode.Head.{Head}
use Rattle.cse_case.specs.Decoding.{BeginsAs, IsDecoded, IsTyped}
use Rattle.cse_case.specs.Line.{FileLine, is_marked, lines_in}
use Rattle.cse_case.specs.NamedColumns.{ids_of}
use Rattle.cse_case.specs.Columns.{id_of, line_text}
use Rattle.cse_case.specs.Run.{IsLastLine, RunText, line_at, run_text, with_line, written_run}
use Rattle.cse_case.specs.Runs.{fault_in, fault_of, given_runs, line_fault, place_after}
use Rattle.cse_case.specs.Reader.{GivesRun}
use Rattle.cse_case.specs.Cutting.{HasNoFeed}
use Rattle.cse_case.specs.Gathering.{Gathered, front_after}

-- the id columns of the first line of a run
abbrev pub run_id : DictionaryText → RunText → List ℕ
run_id d run = ids_of d (line_at run 0).columns

-- the last line of a run, if it has one, is as wide as each line, its record is the one that its type names, and it has the id of the first
abbrev pub LastIsLike : DictionaryText → RunText → Type 0
LastIsLike d run = (columns : List ℕ) (number : Option ℕ) → IsLastLine run columns number → IsTyped d columns number × (ids_of d columns ≡ run_id d run)

-- the columns begin so beside those of the last line of a run
abbrev pub BeginsAsLast : DictionaryText → Beginning → List ℕ → RunText → Type 0
BeginsAsLast d beginning columns run = BeginsAs d beginning columns (line_at run (length run.lines - 1)).columns

-- the line goes on the run
pub record GoesOn (d : DictionaryText) (line : FileLine) (old new : RunText) : Type 0 where
  pub sound : line_fault line ≡ None
  pub same : 0 < length old.lines → run_id d old ≡ id_of d line
  pub room : length old.lines < 10000
  pub is : new ≡ with_line old (is_marked line) (line_text d line)

-- the line ends the run, which stays: it is these columns, under this head
pub record IsLast (d : DictionaryText) (line : FileLine) (old new : RunText) (columns : List ℕ) (head : Head) : Type 0 where
  pub decoded : IsDecoded d line columns head
  pub some : 0 < length old.lines
  pub other : run_id d old ≡ id_of d line → ⊥
  pub same : new ≡ old

abbrev pub Takes : DictionaryText → FileLine → RunText → RunText → List ℕ → Option Head → Type 0
Takes d line old new columns None = GoesOn d line old new
Takes d line old new columns (Some head) = IsLast d line old new columns head

-- the line ends the run, and begins the next one
pub record EndsRun (d : DictionaryText) (line : FileLine) (old new run : RunText) : Type 0 where
  pub sound : line_fault line ≡ None
  pub some : 0 < length old.lines
  pub other : run_id d old ≡ id_of d line → ⊥
  pub is : run ≡ old
  pub next : new ≡ run_text d (old.first_line + length old.lines) (line ∷ [])

-- the line has this fault at its place of the run, which stays
pub record Refuses (d : DictionaryText) (line : FileLine) (old new : RunText) (number : ℕ) : Type 0 where
  pub same : new ≡ old
  pub fault : fault_of (place_after d (run_id d old) (length old.lines) line) line ≡ Some number
  pub low : number < 70

-- a front without a line feed isn't left uncut
abbrev pub CutsPast : List ℕ → List ℕ → Type 0
CutsPast uncut rest = (n : ℕ) → n ≤ length uncut → HasNoFeed (take n uncut) → length rest + n ≤ length uncut

-- lines were cut, and go on the run
pub record Gathers (d : DictionaryText) (front ended : Bool) (old : RunText) (uncut : List ℕ) (new : RunText) (rest : List ℕ) : Type 0 where
  pub gathered : Gathered d front ended new.first_line new rest
  pub held : written_run new ++ rest ≡ written_run old ++ uncut
  pub first_line : new.first_line ≡ old.first_line
  pub fewer : length new.lines + length rest ≤ length old.lines + length uncut
  pub past : (rest ≡ uncut) ⊎ CutsPast uncut rest

-- all lines that are there were cut
pub record GathersAll (d : DictionaryText) (front ended : Bool) (old : RunText) (uncut : List ℕ) (new : RunText) (rest : List ℕ) : Type 0 where
  pub gathers : Gathers d front ended old uncut new rest
  pub none : lines_in (front_after front gathers.gathered.done) ended rest ≡ []
  pub all : ended ≡ true → rest ≡ []
  pub unended : HasNoFeed rest

-- the run is given, and the next one has its first line
pub record GivesFirst (d : DictionaryText) (front ended : Bool) (old : RunText) (uncut : List ℕ) (new : RunText) (rest : List ℕ) (run : RunText) : Type 0 where
  pub gives : GivesRun d (written_run old ++ uncut) (written_run new ++ rest) front ended old.first_line run
  pub gathered : Gathered d false ended new.first_line new rest
  pub one : length new.lines ≡ 1
  pub first_line : new.first_line ≡ old.first_line + length run.lines
  pub fewer : length run.lines + length new.lines + length rest ≤ length old.lines + length uncut
  pub past : CutsPast uncut rest

abbrev pub Cuts : DictionaryText → Bool → Bool → RunText → List ℕ → RunText → List ℕ → Option RunText → Type 0
Cuts d front ended old uncut new rest None = GathersAll d front ended old uncut new rest
Cuts d front ended old uncut new rest (Some run) = GivesFirst d front ended old uncut new rest run

-- a faulty line: so many lines stand before it, and no run is given
pub record RefusesAt (d : DictionaryText) (front ended : Bool) (old : RunText) (uncut : List ℕ) (new : RunText) (number : ℕ) : Type 0 where
  pub fault : fault_in d front ended (written_run old ++ uncut) ≡ Some (length new.lines, number)
  pub none : given_runs d front ended (written_run old ++ uncut) ≡ []
  pub few : length new.lines ≤ length old.lines + length uncut
  pub low : number < 70
