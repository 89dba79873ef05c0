-- The files of a command: what each is to it, and what is done with it.
use Rattle.std.specs.Prelude.{ℕ, Bool, true, false, List, [], ◌∷◌, ◌++◌, Option, None, Some, codes}
use Rattle.std.specs.Borrow.{Bor}
use Rattle.cse_office.specs.declared.apart.Role.{Role}
use Rattle.cse_office.specs.declared.apart.Role.TheVariants.{Dictionary, Data, Out, Listing, Frequencies, Rows, Page, Table}
use Rattle.cse_office.specs.declared.apart.Use.{Use}
use Rattle.cse_office.specs.declared.words.Asked.{Asked}
use Rattle.cse_office.specs.declared.words.Command.{Command}
use Rattle.cse_office.specs.declared.words.Command.TheVariants.{Diff, Report}

-- the word that the usage has for it
abbrev pub word_of : Role → List ℕ
word_of Dictionary = codes "DICT"
word_of Data = codes "DATA"
word_of Out = codes "OUT"
word_of Listing = codes "LIST"
word_of Frequencies = codes "FREQ"
word_of Rows = codes "--cases"
word_of Page = codes "--html"
word_of Table = codes "--csv"

-- a file that is read
abbrev pub reads : Role → Bor (List ℕ) → Use
reads role path = record { role = role; path = path; is_written = false }

-- a file that is written, if it is named
abbrev pub writes_named : Role → Option (Bor (List ℕ)) → List Use
writes_named role None = []
writes_named role (Some path) = record { role = role; path = path; is_written = true } ∷ []

-- ---- the files of a command

-- Those of `report` are never written to `--cases`, which it doesn't have.
abbrev pub uses_with : Role → Role → Asked → List Use
uses_with second third a =
    reads Dictionary a.first ∷ reads second a.second ∷ reads third a.third ∷ ((writes_named Rows a.cases ++ writes_named Page a.html) ++ writes_named Table a.csv)

-- the commands that write no file have none
abbrev pub uses : Command → Asked → List Use
uses Diff a = uses_with Data Out a
uses Report a = uses_with Listing Frequencies a
uses _ a = []
