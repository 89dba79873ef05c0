-- What a source text is.
use Rattle.std.specs.Prelude.{◌≡◌, ℕ, suc, ◌+◌, List, [], ◌∷◌, ◌++◌, length, drop, Some, Result, Ok, Err}
use Rattle.cse_syntax.specs.declared.lexer.Gap.TheVariants as g
use Rattle.cse_syntax.specs.declared.error.Cause.{Cause}
use Rattle.cse_syntax.specs.declared.error.Cause.TheVariants as cause
use Rattle.cse_syntax.specs.declared.error.ReadError.{ReadError}
use Rattle.cse_syntax.specs.declared.error.ReadError.TheVariants as errors
use Rattle.cse_syntax.specs.declared.error.SyntaxError.{SyntaxError}
use Rattle.cse_syntax_tree.specs.Word.{Word, word}
use Rattle.cse_syntax_tree.specs.Tree.{Tree}
use Rattle.cse_syntax_tree.specs.Grammar.{IsSource}
use Rattle.cse_syntax.specs.Text.{skip, mark_len, Piece, pieces_of}

-- the words of tokens, which are counted from this number
abbrev pub said_from : ℕ → List Piece → List Word
said_from n [] = []
said_from n (p ∷ ps) = word n p.kind p.text ∷ said_from (suc n) ps

abbrev pub said : List Piece → List Word
said ps = said_from 0 ps

-- The text is cut into tokens, whose words are the tree's, with at most this many parentheses and statements open at once.
abbrev pub IsSourceText : ℕ → List ℕ → Tree → Type 0
IsSourceText room text tree = (ps : List Piece) × (pieces_of text ≡ Some ps) × IsSource room tree (said ps)

-- The text from this place on is the tokens in order, with blanks and comments alone between them.
abbrev pub Covers : ℕ → List ℕ → List Piece → Type 0
Covers place text [] = skip g.Between text ≡ Some []
Covers place text (p ∷ ps) =
    (gap rest : List ℕ) × (text ≡ gap ++ (p.text ++ rest)) × (skip g.Between gap ≡ Some []) × (p.start ≡ place + length gap) × (p.end ≡ p.start + length p.text) × Covers p.end rest ps

-- the same of a whole text, behind a byte order mark at its front
abbrev pub IsCovered : List ℕ → List Piece → Type 0
IsCovered text ps = Covers (mark_len text) (drop (mark_len text) text) ps

-- ---- faults

abbrev pub cause_number : Cause → ℕ
cause_number cause.Character = 30
cause_number cause.Comment = 31
cause_number cause.Unexpected = 32
cause_number cause.LeftOut = 33
cause_number cause.TooDeep = 34
cause_number cause.OutOfRange = 35

abbrev pub error_number : ReadError → ℕ
error_number errors.Memory = 90
error_number (errors.Found fault) = cause_number fault.cause

-- A source text is read as its tree, unless memory runs out.
abbrev pub IsRead : {A : Type 0} → (A → Tree) → Result A SyntaxError → Tree → Type 0
IsRead view (Ok x) tree = view x ≡ tree
IsRead view (Err e) tree = e.number ≡ 90
