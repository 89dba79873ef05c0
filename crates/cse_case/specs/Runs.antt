-- Faulty lines, and the runs of a whole list of bytes.
use Rattle.std.specs.Prelude.{◌≡◌, ℕ, ◌+◌, Bool, true, false, nat_lt, List, [], ◌∷◌, length, take, Option, None, Some, is_some, if◌then◌else◌}
use Rattle.std.specs.Option.{option_map}
use Rattle.std.specs.Str.{is_utf8, bytes_eq}
use Rattle.cse_dict.specs.Dictionary.{DictionaryText}
use Rattle.cse_case.specs.Line.{FileLine, text_of, lines_in}
use Rattle.cse_case.specs.Columns.{columns_of, id_of}

-- the fault that a line has by itself: 21 above 262,144 bytes, its end and the mark not counted; 20 if these aren't UTF-8; 21 above 65,536 columns
unfoldable pub line_fault : FileLine → Option ℕ
line_fault line =
    if nat_lt 262144 (length (text_of line)) then Some 21
    else if is_utf8 (text_of line) then (if nat_lt 65536 (length (columns_of line)) then Some 21 else None)
    else Some 20

-- none of the lines has a fault by itself
abbrev pub AreSound : List FileLine → Type 0
AreSound [] = Unit {0}
AreSound (line ∷ lines) = (line_fault line ≡ None) × AreSound lines

-- the fault of a line that stands at this place of its run, from 1: after its own, 22 above 10,000 lines
abbrev pub fault_of : ℕ → FileLine → Option ℕ
fault_of place line = if is_some (line_fault line) then line_fault line else if nat_lt 10000 place then Some 22 else None

-- the place in its run of a line that comes after n lines of the id
abbrev pub place_after : DictionaryText → List ℕ → ℕ → FileLine → ℕ
place_after d id n line = if bytes_eq id (id_of d line) then n + 1 else 1

-- a fault here, or else the later one, which is one line further on
abbrev pub or_later : Option ℕ → Option (ℕ × ℕ) → Option (ℕ × ℕ)
or_later (Some number) later = Some (0, number)
or_later None later = option_map (λ f. (f.0 + 1, f.1)) later

-- a fault that comes so many lines later
abbrev pub later_by : ℕ → Option (ℕ × ℕ) → Option (ℕ × ℕ)
later_by lines fault = option_map (λ f. (lines + f.0, f.1)) fault

-- the first faulty line of lines that come after n lines of the id: how many stand before it, and its fault
abbrev pub first_fault : DictionaryText → List ℕ → ℕ → List FileLine → Option (ℕ × ℕ)
first_fault d id n [] = None
first_fault d id n (line ∷ lines) =
    let place = place_after d id n line in
    or_later (fault_of place line) (first_fault d (id_of d line) place lines)

-- a line before these runs: it goes on the first of them where the ids are equal
abbrev pub onto_run : DictionaryText → FileLine → List (List FileLine) → List (List FileLine)
onto_run d line [] = (line ∷ []) ∷ []
onto_run d line ([] ∷ runs) = (line ∷ []) ∷ runs
onto_run d line ((next ∷ run) ∷ runs) =
    if bytes_eq (id_of d line) (id_of d next) then (line ∷ next ∷ run) ∷ runs
    else (line ∷ []) ∷ (next ∷ run) ∷ runs

-- the lines, cut where the id columns change
abbrev pub runs_of : DictionaryText → List FileLine → List (List FileLine)
runs_of d [] = []
runs_of d (line ∷ lines) = onto_run d line (runs_of d lines)

-- without the last
abbrev pub all_but_last : List (List FileLine) → List (List FileLine)
all_but_last [] = []
all_but_last (run ∷ []) = []
all_but_last (run ∷ next ∷ runs) = run ∷ all_but_last (next ∷ runs)

-- the runs of lines that are given, where the first faulty line is this one
abbrev pub given_before : DictionaryText → Option (ℕ × ℕ) → Bool → List FileLine → List (List FileLine)
given_before d (Some fault) ended lines = all_but_last (runs_of d (take (fault.0) lines))
given_before d None true lines = runs_of d lines
given_before d None false lines = all_but_last (runs_of d lines)

-- the runs that are given of these lines
unfoldable pub given_of : DictionaryText → Bool → List FileLine → List (List FileLine)
given_of d ended lines = given_before d (first_fault d [] 0 lines) ended lines

-- the runs that are given of bytes, at the front of the file or not, after which the file has ended or breaks off
abbrev pub given_runs : DictionaryText → Bool → Bool → List ℕ → List (List FileLine)
given_runs d front ended bytes = given_of d ended (lines_in front ended bytes)

-- the first faulty line of these bytes: how many lines stand before it, and its fault
unfoldable pub fault_in : DictionaryText → Bool → Bool → List ℕ → Option (ℕ × ℕ)
fault_in d front ended bytes = first_fault d [] 0 (lines_in front ended bytes)

-- these bytes may still come, and then the file has ended or not
abbrev pub MayFollow : Bool → Bool → List ℕ → Type 0
MayFollow ended later more = ended ≡ true → (later ≡ true) × (more ≡ [])
