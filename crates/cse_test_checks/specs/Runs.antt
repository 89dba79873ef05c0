-- Worked rows of data files: their lines and runs, and the first faulty line.
use Rattle.std.specs.Prelude.{◌≡◌, ℕ, true, List, [], ◌∷◌, ◌++◌, map, codes, Option, Some, None}
use Rattle.std.specs.Str.{encode_utf8_all}
use Rattle.cse_dict.specs.Dictionary.{DictionaryText, dictionary_of}
use Rattle.cse_sections.specs.Sections.{sections_of}
use Rattle.cse_case.specs.Columns.{LineText, line_text}
use Rattle.cse_case.specs.Runs.{fault_in, given_runs}
use Rattle.cse_case.specs.declared.line.Ending.{Ending}
use Rattle.cse_case.specs.declared.line.Ending.TheVariants.{FileEnd, Feed, ReturnFeed}
use Rattle.cse_test_checks.specs.Rows.{Gives}

-- the type in column 1, the household in columns 2 to 4; a person has six columns
abbrev pub persons : DictionaryText
persons = dictionary_of (sections_of (
    codes "[Dictionary]\nName=D\nRecordTypeStart=1\nRecordTypeLen=1\n[Level]\nName=L\n[IdItems]\n[Item]\nName=HH\nStart=2\nLen=3\n"
    ++ codes "[Record]\nName=PERSON\nRecordTypeValue='P'\nRecordLen=6\nMaxRecords=2\n"))

-- the byte order mark
abbrev pub mark : List ℕ
mark = 239 ∷ 187 ∷ 191 ∷ []

-- a line: its columns, how many it had in the file, its end, and its record
abbrev pub line : List ℕ → ℕ → Ending → Option ℕ → LineText
line columns len ending record_number = record { columns = columns; len = len; ending = ending; record_number = record_number }

-- the runs of a file that has ended
abbrev pub runs : List ℕ → List (List LineText)
runs bytes = map (map (line_text persons)) (given_runs persons true true bytes)

-- lines with ends of each kind, of a record and of none, and with U+00E9
abbrev pub file : List ℕ
file = mark ++ encode_utf8_all (codes "P00111\r\nP0012\nX001\nP002  b \n\nP00é\nP00éz\nP003\rx")

abbrev pub file_runs : List (List LineText)
file_runs =
    (line (codes "P00111") 6 ReturnFeed (Some 0) ∷ line (codes "P0012 ") 5 Feed (Some 0) ∷ line (codes "X001") 4 Feed None ∷ [])
    ∷ (line (codes "P002  b ") 8 Feed (Some 0) ∷ [])
    ∷ (line (codes "    ") 0 Feed None ∷ [])
    ∷ (line (codes "P00é  ") 4 Feed (Some 0) ∷ line (codes "P00éz ") 5 Feed (Some 0) ∷ [])
    ∷ (line (codes "P003\rx") 6 FileEnd (Some 0) ∷ []) ∷ []

abbrev pub small : List (List ℕ × List (List LineText))
small =
    (codes "", []) ∷ (mark, (line (codes "    ") 0 FileEnd None ∷ []) ∷ []) ∷ (codes "P1\r", (line (codes "P1\r   ") 3 FileEnd (Some 0) ∷ []) ∷ [])
    ∷ (codes "P1\r\r\n", (line (codes "P1\r   ") 3 ReturnFeed (Some 0) ∷ []) ∷ []) ∷ (codes "\r\n", (line (codes "    ") 0 ReturnFeed None ∷ []) ∷ []) ∷ []

-- a line that is no UTF-8, behind another one
abbrev pub faulty : List ℕ
faulty = codes "P00111 35\n" ++ 255 ∷ codes "\nP002\n"

pub record RunsAreWorked : Type 0 where
  pub runs_are : runs file ≡ file_runs
  pub small_are : Gives runs small
  pub none_is_faulty : fault_in persons true true file ≡ None
  -- one line stands before it
  pub second_is_faulty : fault_in persons true true faulty ≡ Some (1, 20)
  pub none_is_given : runs faulty ≡ []
