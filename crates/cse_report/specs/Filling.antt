-- Where what stands for placeholders is UTF-8.
use Rattle.std.specs.Prelude.{List, [], ◌∷◌}
use Rattle.std.specs.Str.{IsUtf8}
use Rattle.cse_image_parts.specs.declared.placeholders.Piece.{Piece}
use Rattle.cse_image_parts.specs.declared.placeholders.Piece.TheVariants as pieces
use Rattle.cse_report.specs.declared.argument.Arg.{Arg}
use Rattle.cse_report.specs.MessageText.{number_by, words_by, arguments_after}

-- what stands for a placeholder is UTF-8
abbrev pub IsPlaced : Piece → List Arg → Type 0
IsPlaced (pieces.Plain c) args = Unit {0}
IsPlaced (pieces.Number width zeros) args = IsUtf8 (number_by width zeros args)
IsPlaced pieces.Text args = IsUtf8 (words_by args)

-- the same of all placeholders
abbrev pub ArePlaced : List Piece → List Arg → Type 0
ArePlaced [] args = Unit {0}
ArePlaced (p ∷ ps) args = IsPlaced p args × ArePlaced ps (arguments_after p args)
