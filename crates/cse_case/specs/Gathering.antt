-- What a reader knows of the lines that it has cut and not yet given.
use Rattle.std.specs.Prelude.{◌≡◌, ◌+◌, ◌≤◌, ℕ, Bool, false, List, [], ◌∷◌, ◌++◌, length, None}
use Rattle.std.specs.List.{flat_map}
use Rattle.cse_dict.specs.Dictionary.{DictionaryText}
use Rattle.cse_case.specs.Line.{FileLine, lines_in}
use Rattle.cse_case.specs.Columns.{id_of}
use Rattle.cse_case.specs.Run.{RunText, run_text}
use Rattle.cse_case.specs.Runs.{MayFollow, fault_of}

-- the bytes of lines, one after the other
abbrev pub bytes_of : List FileLine → List ℕ
bytes_of lines = flat_map (λ line. line.1) lines

-- lines that go on a run of the id, of which n lines stand before: of that id, and without a fault
abbrev pub IsRunOf : DictionaryText → List ℕ → ℕ → List FileLine → Type 0
IsRunOf d id n [] = Unit {0}
IsRunOf d id n (line ∷ lines) = (id_of d line ≡ id) × (fault_of (n + 1) line ≡ None) × IsRunOf d id (n + 1) lines

-- the first of these lines stands at the front of the file or not, and the others don't
abbrev pub StandsFrom : Bool → List FileLine → Type 0
StandsFrom front [] = Unit {0}
StandsFrom front (line ∷ lines) = (line.0 ≡ front) × StandsFrom false lines

-- the id columns of the first of some lines
abbrev pub first_id : DictionaryText → List FileLine → List ℕ
first_id d [] = []
first_id d (line ∷ lines) = id_of d line

-- whether the line after these stands at the front of the file
abbrev pub front_after : Bool → List FileLine → Bool
front_after front [] = front
front_after front (line ∷ lines) = false

-- The lines of the run are these of the file, a run as far as they go; they are the first of what is held, whatever may follow.
pub record Gathered (d : DictionaryText) (front ended : Bool) (number : ℕ) (run : RunText) (uncut : List ℕ) : Type 0 where
  pub done : List FileLine
  pub is : run ≡ run_text d number done
  pub same : IsRunOf d (first_id d done) 0 done
  pub few : length done ≤ 10000
  pub stands : StandsFrom front done
  pub lines : (later : Bool) (more : List ℕ) → MayFollow ended later more
      → lines_in front later (bytes_of done ++ (uncut ++ more)) ≡ done ++ lines_in (front_after front done) later (uncut ++ more)
