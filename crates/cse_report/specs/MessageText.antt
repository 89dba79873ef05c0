-- The text of a message and its arguments. The placeholders of the message take the arguments in order:
-- %d a number, %nd a number in at least n columns with blanks in front, %0nd with zeros after its sign,
-- %s a text. Special values stand by name, with blanks in front. %% is a %, and any other byte itself.
use Rattle.std.specs.Prelude.{◌≡◌, ℕ, ◌-◌, Bool, List, [], ◌∷◌, ◌++◌, length, map, drop, reverse, nat_lt, if◌then◌else◌}
use Rattle.std.specs.Fmt.{signed_decimal}
use Rattle.std.specs.Str.{encode_utf8_all}
use Rattle.cse_value.specs.declared.number.Num.{Num}
use Rattle.cse_value.specs.declared.number.Num.TheVariants.{Whole, NotAppl, Missing, Undef}
use Rattle.cse_value.specs.Texts.{blanks}
use Rattle.cse_value.specs.Field.{filled, shown, without_blanks}
use Rattle.cse_image_parts.specs.declared.placeholders.ArgumentKind.{ArgumentKind}
use Rattle.cse_image_parts.specs.declared.placeholders.ArgumentKind.TheVariants as kinds
use Rattle.cse_image_parts.specs.declared.placeholders.Piece.{Piece}
use Rattle.cse_image_parts.specs.declared.placeholders.Piece.TheVariants as pieces
use Rattle.cse_image_parts.specs.Placeholders.{pieces_of, message_kinds}
use Rattle.cse_report.specs.declared.argument.Arg.{Arg}
use Rattle.cse_report.specs.declared.argument.Arg.TheVariants.{Number, Words}

-- ---- one argument

-- in at least so many columns, with blanks in front
abbrev pub aligned : ℕ → List ℕ → List ℕ
aligned width text = blanks (width - length text) ++ text

-- a number in at least so many columns, with zeros after its sign or blanks in front; a special value by
-- its name, with blanks in front
abbrev pub number_text : ℕ → Bool → Num → List ℕ
number_text width zeros (Whole z) = filled (width - length (signed_decimal z)) zeros z
number_text width zeros NotAppl = aligned width (shown NotAppl)
number_text width zeros Missing = aligned width (shown Missing)
number_text width zeros Undef = aligned width (shown Undef)

-- a character below U+0020 shows as ?
abbrev pub visible : ℕ → ℕ
visible c = if nat_lt c 32 then 63 else c

-- the characters without the blanks at their end
abbrev pub without_end : List ℕ → List ℕ
without_end text = reverse (without_blanks (reverse text))

-- a text without the blanks at its end, in UTF-8
unfoldable pub words_text : List ℕ → List ℕ
words_text text = encode_utf8_all (map visible (without_end text))

-- ---- a message

-- the kind of an argument
abbrev pub kind_of : Arg → ArgumentKind
kind_of (Number value) = kinds.Number
kind_of (Words text) = kinds.Text

-- the arguments are of the kinds that the message's text takes
abbrev pub HasArguments : List ℕ → List Arg → Type 0
HasArguments text args = map kind_of args ≡ message_kinds text

-- what stands for a placeholder, if the next argument is of its kind
abbrev pub number_by : ℕ → Bool → List Arg → List ℕ
number_by width zeros [] = []
number_by width zeros (Number value ∷ args) = number_text width zeros value
number_by width zeros (Words text ∷ args) = []

abbrev pub words_by : List Arg → List ℕ
words_by [] = []
words_by (Number value ∷ args) = []
words_by (Words text ∷ args) = words_text text.items

-- what stands for a piece where these arguments come next
abbrev pub piece_text : Piece → List Arg → List ℕ
piece_text (pieces.Plain c) args = c ∷ []
piece_text (pieces.Number width zeros) args = number_by width zeros args
piece_text pieces.Text args = words_by args

-- the arguments after the piece, which takes the next one if it is a placeholder
abbrev pub arguments_after : Piece → List Arg → List Arg
arguments_after (pieces.Plain c) args = args
arguments_after (pieces.Number width zeros) args = drop 1 args
arguments_after pieces.Text args = drop 1 args

-- the pieces in order
abbrev pub text_of_pieces : List Piece → List Arg → List ℕ
text_of_pieces [] args = []
text_of_pieces (p ∷ ps) args = piece_text p args ++ text_of_pieces ps (arguments_after p args)

-- the text of a message with these arguments
unfoldable pub message_text : List ℕ → List Arg → List ℕ
message_text text args = text_of_pieces (pieces_of text) args
