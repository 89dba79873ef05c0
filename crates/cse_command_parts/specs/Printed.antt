-- What `try`, `compile` and `--version` print.
use Rattle.std.specs.Prelude.{ℕ, List, [], ◌∷◌, ◌++◌, codes, decimal}
use Rattle.std.specs.List.{flat_map}
use Rattle.cse_image_parts.specs.Image.{MessageLists}
use Rattle.cse_report.specs.declared.argument.Arg.{Arg}
use Rattle.cse_report.specs.Listing.{Gives}
use Rattle.cse_report.specs.Held.{texts_of}

-- ---- `try`: the text of each listed message on a line, and then how many steps the run took

-- the texts of the messages that are listed, with their arguments, in order
abbrev pub listed : List MessageLists → List (ℕ × List Arg) → List (List ℕ)
listed messages given = flat_map (λ g. texts_of messages (Gives g.0 g.1)) given

abbrev pub text_line : List ℕ → List ℕ
text_line text = text ++ 10 ∷ []

abbrev pub text_lines : List (List ℕ) → List ℕ
text_lines texts = flat_map text_line texts

abbrev pub steps_line : ℕ → List ℕ
steps_line n = decimal n ++ codes " steps\n"

abbrev pub printed : List (List ℕ) → ℕ → List ℕ
printed texts n = text_lines texts ++ steps_line n

-- ---- `compile`: how many bytes the image has

abbrev pub compiled_line : ℕ → List ℕ
compiled_line n = codes "compiled " ++ decimal n ++ codes " bytes\n"

-- ---- `--version`

abbrev pub version_line : List ℕ → List ℕ
version_line version = codes "csbatch " ++ version ++ codes "\n"
