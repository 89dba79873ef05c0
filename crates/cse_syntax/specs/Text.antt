-- The tokens of a text, as a function of its bytes: blanks and comments, the longest token, and all of them in order.
use Rattle.std.specs.Prelude.{ℕ, zero, suc, ◌-◌, ◌+◌, Bool, true, false, ◌||◌, ◌&&◌, ◌==◌, if◌then◌else◌, List, [], ◌∷◌, length, take, drop, map, Option, Some, None, nat_le}
use Rattle.std.specs.List.{prefix_len, count_by}
use Rattle.std.specs.Char.{is_ascii_alphabetic, is_ascii_digit}
use Rattle.cse_syntax_tree.specs.declared.token.Mark.{Mark}
use Rattle.cse_syntax_tree.specs.declared.token.Mark.TheVariants as m
use Rattle.cse_syntax_tree.specs.declared.token.Kind.{Kind}
use Rattle.cse_syntax_tree.specs.declared.token.Kind.TheVariants as k
use Rattle.cse_syntax_tree.specs.declared.token.Token.{Token}
use Rattle.cse_syntax.specs.declared.lexer.Gap.{Gap}
use Rattle.cse_syntax.specs.declared.lexer.Gap.TheVariants as g
use Rattle.cse_syntax.specs.Loop.{◌>>=◌, Reader, loop, snoc}
pub use Rattle.cse_syntax_tree.specs.Leaf.{or_else, begins, word_kind, is_word_byte, is_inside, is_start}

-- ---- blanks and comments

abbrev pub is_blank : ℕ → Bool
is_blank b = b == 32 || (b == 9 || (b == 10 || b == 13))

-- Where the next byte is, after a byte of a blank or a comment, or none where a token begins.
-- `{ }` nest; a `//` goes to the line's end; within the one the other means nothing.
abbrev pub gap_after : Gap → ℕ → Bool → Option Gap
gap_after g.Between b slash =
    if b == 123 then Some (g.Braces 0)
    else (if is_blank b then Some g.Between
    else (if (b == 47 && slash) then Some g.Slash
    else None))
gap_after g.Slash b slash = Some g.Line
gap_after g.Line b slash = if b == 10 then Some g.Between else Some g.Line
gap_after (g.Braces zero) b slash = if b == 123 then Some (g.Braces 1) else (if b == 125 then Some g.Between else Some (g.Braces 0))
gap_after (g.Braces (suc n)) b slash = if b == 123 then Some (g.Braces (suc (suc n))) else (if b == 125 then Some (g.Braces n) else Some (g.Braces (suc n)))

-- the text after blanks and comments, if each comment in braces ends
abbrev pub skip : Gap → List ℕ → Option (List ℕ)
skip g.Between [] = Some []
skip g.Slash [] = None
skip g.Line [] = Some []
skip (g.Braces n) [] = None
skip gap (b ∷ bs) = or_else (gap_after gap b (begins 47 bs)) (λ after. skip after bs) (Some (b ∷ bs))

-- the bytes of a byte order mark at the front
abbrev pub mark_len : List ℕ → ℕ
mark_len bs = if (begins 239 bs && (begins 187 (drop 1 bs) && begins 191 (drop 2 bs))) then 3 else 0

-- ---- symbols and texts

-- a symbol of one character
abbrev pub symbol : ℕ → Option Mark
symbol b =
    if b == 59 then Some m.Semicolon
    else (if b == 44 then Some m.Comma
    else (if b == 40 then Some m.Open
    else (if b == 41 then Some m.Close
    else (if b == 61 then Some m.Equals
    else (if b == 43 then Some m.Plus
    else (if b == 45 then Some m.Minus
    else (if b == 42 then Some m.Star
    else (if b == 47 then Some m.Slash
    else (if b == 37 then Some m.Percent
    else None)))))))))

-- the longest symbol that begins with this byte, where these come after it: its length and which it is
abbrev pub symbol_at : ℕ → List ℕ → Option (ℕ × Mark)
symbol_at b bs =
    if b == 60 then (if begins 62 bs then Some (2, m.Differs) else (if begins 61 bs then Some (2, m.AtMost) else Some (1, m.Less)))
    else (if b == 62 then (if begins 61 bs then Some (2, m.AtLeast) else Some (1, m.More))
    else (symbol b >>= λ mark. Some (1, mark)))

-- the length of a text with its quotes, where these bytes come after the first quote: it ends at the next such quote,
-- on the same line, and has at most 255 characters
abbrev pub text_len : ℕ → List ℕ → Option ℕ
text_len quote bs =
    let n = prefix_len (is_inside quote) bs in
    if (begins quote (drop n bs) && nat_le (count_by is_start (take n bs)) 255) then Some (n + 2) else None

-- ---- tokens

-- the longest token at the front: its length and its kind
unfoldable pub token_at : List ℕ → Option (ℕ × Kind)
token_at [] = None
token_at (b ∷ bs) =
    if is_ascii_alphabetic b then (let n = prefix_len is_word_byte (b ∷ bs) in Some (n, word_kind (take n (b ∷ bs))))
    else (if is_ascii_digit b then Some (prefix_len is_ascii_digit (b ∷ bs), k.Number)
    else (if (b == 39 || b == 34) then (text_len b bs >>= λ n. Some (n, k.Text))
    else (symbol_at b bs >>= λ found. Some (found.0, k.Mark found.1))))

-- a token without where its text lies in memory
pub record Piece : Type 0 where
  pub kind : Kind
  pub start : ℕ
  pub end : ℕ
  pub text : List ℕ

abbrev pub piece : Token → Piece
piece t = record { kind = t.kind; start = t.start; end = t.end; text = t.text.now }

abbrev pub pieces : List Token → List Piece
pieces ts = map piece ts

abbrev pub goes_on : List ℕ → Bool
goes_on [] = false
goes_on (b ∷ bs) = true

-- the token at the front of what is left of a text of this length, and the text from the next one on
unfoldable pub next_piece : ℕ → Reader ℕ Piece
next_piece total bytes = do
  found ← token_at bytes
  rest ← skip g.Between (drop found.0 bytes)
  Some (record { kind = found.1; start = total - length bytes; end = total - length bytes + found.0; text = take found.0 bytes }, rest)

abbrev pub pieces_from : ℕ → ℕ → List Piece → Reader ℕ (List Piece)
pieces_from total = loop goes_on (next_piece total) snoc

-- the tokens of a text, a byte order mark at its front aside
unfoldable pub pieces_of : List ℕ → Option (List Piece)
pieces_of text = do
  first ← skip g.Between (drop (mark_len text) text)
  all ← pieces_from (length text) (length first) [] first
  Some all.0
