-- Reading declarations, procedures and whole sources from left to right.
use Rattle.std.specs.Prelude.{ℕ, Bool, true, false, ◌&&◌, ◌==◌, if◌then◌else◌, List, [], ◌∷◌, length, drop, Option, Some, None}
use Rattle.cse_syntax_tree.specs.declared.token.Mark.TheVariants as m
use Rattle.cse_syntax_tree.specs.Word.{Word, Name, Digits, Sign}
use Rattle.cse_syntax_tree.specs.Tree.{Spelling, Literal, stmts, Dimension, Sized, Rows, Parameter, Array, Declaration, Numeric, Alpha, Array', Function', Body, Plain, Preproc, Both, Postproc, Procedure, Tree}
use Rattle.cse_syntax_tree.specs.Leaf.{is_name, is_within, MOST}
use Rattle.cse_syntax.specs.Reading.{◌>>=◌, Parser, loop, snoc, sees, expect, ends, after, take_name, name_before, take_number, listed}
use Rattle.cse_syntax.specs.ReadingStmt.{literal, statements_at}
use Rattle.cse_syntax.specs.Text.{pieces_of}
use Rattle.cse_syntax.specs.Source.{said}

-- after the name of a value set
unfoldable pub rows : Spelling → Parser Dimension
rows name ws =
    if sees m.Open ws then (do
      plus ← expect m.Plus (drop 1 ws)
      close ← expect m.Close plus
      Some (Rows name true, close))
    else Some (Rows name false, ws)

unfoldable pub dimension : Parser Dimension
dimension (Digits digits ∷ ws) = if is_within 1 65535 digits.text then Some (Sized digits, ws) else None
dimension (Name name ∷ ws) = if is_name name.text then rows name ws else None
dimension _ = None

unfoldable pub parameter : Parser Parameter
parameter ws = do
  name ← take_name (after m.Numeric ws)
  Some (record { declared = sees m.Numeric ws; name = name.0 }, name.1)

unfoldable pub parameters : Parser (List Parameter)
parameters ws = if sees m.Close ws then Some ([], ws) else listed parameter ws

unfoldable pub cells : Parser (List Literal)
cells ws = if sees m.Equals ws then listed (literal MOST) (drop 1 ws) else Some ([], ws)

-- after the word that begins a declaration
unfoldable pub numeric : Parser Declaration
numeric ws = do
  names ← listed take_name ws
  rest ← expect m.Semicolon names.1
  Some (Numeric names.0, rest)

unfoldable pub alpha : Parser Declaration
alpha ws = do
  open_paren ← expect m.Open ws
  size ← take_number 1 255 open_paren
  close ← expect m.Close size.1
  names ← listed take_name close
  rest ← expect m.Semicolon names.1
  Some (Alpha size.0 names.0, rest)

unfoldable pub array : Parser Array
array ws = do
  name ← name_before m.Open ws
  dimensions ← listed dimension name.1
  close ← expect m.Close dimensions.1
  found ← cells (after m.Save close)
  Some (record { name = name.0; dimensions = dimensions.0; saved = sees m.Save close; cells = found.0 }, found.1)

unfoldable pub array_declaration : Parser Declaration
array_declaration ws = do
  found ← array ws
  rest ← expect m.Semicolon found.1
  Some (Array' found.0, rest)

abbrev pub starts_declaration : List Word → Bool
starts_declaration (Sign m.Numeric ∷ ws) = true
starts_declaration (Sign m.Alpha ∷ ws) = true
starts_declaration (Sign m.Array ∷ ws) = true
starts_declaration (Sign m.Function ∷ ws) = true
starts_declaration _ = false

module _ (room : ℕ) where
  unfoldable pub function : Parser Declaration
  function ws = do
    name ← name_before m.Open ws
    found ← parameters name.1
    close ← expect m.Close found.1
    body ← statements_at room close
    rest ← ends m.End body.1
    Some (Function' name.0 found.0 (stmts body.0), rest)

  unfoldable pub declaration : Parser Declaration
  declaration (Sign m.Numeric ∷ ws) = numeric ws
  declaration (Sign m.Alpha ∷ ws) = alpha ws
  declaration (Sign m.Array ∷ ws) = array_declaration ws
  declaration (Sign m.Function ∷ ws) = function ws
  declaration _ = None

  abbrev pub declarations_from : ℕ → List Declaration → Parser (List Declaration)
  declarations_from = loop starts_declaration declaration snoc

  unfoldable pub declarations : Parser (List Declaration)
  declarations ws = declarations_from (length ws) [] ws

  -- what stands after `PROC GLOBAL`, if it is there
  unfoldable pub globals : Parser (Option (List Declaration))
  globals ws =
      if (sees m.Proc ws && sees m.Global (drop 1 ws)) then (do
        proc ← expect m.Proc ws
        global ← expect m.Global proc
        found ← declarations global
        Some (Some found.0, found.1))
      else Some (None, ws)

  unfoldable pub plain : Parser Body
  plain ws = do
    found ← statements_at room ws
    Some (Plain (stmts found.0), found.1)

  unfoldable pub postproc : Parser Body
  postproc ws = do
    found ← statements_at room ws
    Some (Postproc (stmts found.0), found.1)

  unfoldable pub preproc : Parser Body
  preproc ws = do
    found ← statements_at room ws
    if sees m.Postproc found.1
        then (do
          last ← statements_at room (drop 1 found.1)
          Some (Both (stmts found.0) (stmts last.0), last.1))
        else Some (Preproc (stmts found.0), found.1)

  unfoldable pub body : Parser Body
  body ws =
      if sees m.Preproc ws then preproc (drop 1 ws)
      else (if sees m.Postproc ws then postproc (drop 1 ws)
      else plain ws)

  unfoldable pub procedure : Parser Procedure
  procedure ws = do
    rest ← expect m.Proc ws
    name ← take_name rest
    found ← body name.1
    Some (record { name = name.0; body = found.0 }, found.1)

  abbrev pub procedures_from : ℕ → List Procedure → Parser (List Procedure)
  procedures_from = loop (sees m.Proc) procedure snoc

  unfoldable pub procedures : Parser (List Procedure)
  procedures ws = procedures_from (length ws) [] ws

  -- all of the words
  unfoldable pub source_at : List Word → Option Tree
  source_at ws = do
    first ← globals ws
    found ← procedures first.1
    if length found.1 == 0 then Some (record { globals = first.0; procedures = found.0 }) else None

-- the tree of a text
abbrev pub tree_of : ℕ → List ℕ → Option Tree
tree_of room text = pieces_of text >>= λ ps. source_at room (said ps)
