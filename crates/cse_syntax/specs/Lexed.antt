-- What the cutting of a text into tokens answers.
use Rattle.std.specs.Prelude.{◌≡◌, ◌<◌, ℕ, suc, List, map, length, Option, Some, None}
use Rattle.cse_syntax.specs.declared.lexer.Gap.{Gap}
use Rattle.cse_syntax.specs.declared.lexer.Gap.TheVariants as g
use Rattle.cse_syntax_tree.specs.declared.token.Token.{Token}
use Rattle.cse_syntax.specs.declared.error.SourceFault.{SourceFault}
use Rattle.cse_syntax.specs.declared.lexer.Next.{Next}
use Rattle.cse_syntax.specs.declared.lexer.Next.TheVariants as n
use Rattle.cse_syntax_tree.specs.Word.{AreNumbered}
use Rattle.cse_syntax.specs.Text.{piece, pieces_of, next_piece}

-- how many comments in braces are open
abbrev pub depth : Gap → ℕ
depth (g.Braces n) = suc n
depth _ = 0

-- These are all tokens of the text, or a fault was found and it has none.
abbrev pub Splits : List ℕ → List Token → Option SourceFault → Type 0
Splits text tokens None = (pieces_of text ≡ Some (map piece tokens)) × AreNumbered 0 tokens
Splits text tokens (Some fault) = pieces_of text ≡ None

abbrev pub Continues : ℕ → ℕ → List ℕ → Next → Type 0
Continues index total text (n.Token token rest) = (next_piece total text ≡ Some (piece token, rest.now)) × (token.index ≡ index)
Continues index total text (n.Last token fault) = next_piece total text ≡ None
Continues index total text (n.Fault fault) = next_piece total text ≡ None

abbrev pub IsShorter : List ℕ → Next → Type 0
IsShorter text (n.Token token rest) = length rest.now < length text
IsShorter text (n.Last token fault) = Unit {0}
IsShorter text (n.Fault fault) = Unit {0}
