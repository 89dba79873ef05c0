-- Reading statements from left to right.
use Rattle.std.specs.Prelude.{ℕ, zero, suc, Bool, true, false, ◌&&◌, if◌then◌else◌, List, [], ◌∷◌, length, drop, Option, Some, None}
use Rattle.std.specs.Str.{str_eq_ignore_ascii_case}
use Rattle.cse_syntax_tree.specs.declared.token.Mark.{Mark}
use Rattle.cse_syntax_tree.specs.declared.token.Mark.TheVariants as m
use Rattle.cse_syntax_tree.specs.declared.tree.Count.{Count}
use Rattle.cse_syntax_tree.specs.declared.tree.Count.TheVariants as c
use Rattle.cse_syntax_tree.specs.declared.tree.Jump.{Jump}
use Rattle.cse_syntax_tree.specs.Word.{Word, Name, Digits, Quoted, Leave, Sign}
use Rattle.cse_syntax_tree.specs.Tree.{Spelling, Expr, exprs, Literal, Limit, Fixed, Counted, Counting, Message, Own, Numbered, Stmt, Empty, Assign, Call, If, For, Do, Jump', Impute, PutDeck, ErrMsg, Stmts, stmts, Arms, no_arm, else_of, arms}
use Rattle.cse_syntax_tree.specs.Leaf.{is_name, is_within, is_text, MOST}
use Rattle.cse_syntax.specs.Reading.{◌>>=◌, Parser, loop, snoc, sees, expect, ends, after, enter, take_name, name_before, take_number, listed, subscripts, arguments, nested, expr_at}

abbrev pub starts_mark : Mark → Bool
starts_mark m.Semicolon = true
starts_mark m.If = true
starts_mark m.For = true
starts_mark m.Do = true
starts_mark m.Impute = true
starts_mark m.PutDeck = true
starts_mark m.ErrMsg = true
starts_mark _ = false

abbrev pub starts_stmt : List Word → Bool
starts_stmt (Name name ∷ ws) = true
starts_stmt (Leave token jump ∷ ws) = true
starts_stmt (Sign mark ∷ ws) = starts_mark mark
starts_stmt _ = false

-- a number with or without a minus
unfoldable pub literal : ℕ → Parser Literal
literal most ws = do
  found ← take_number 0 most (after m.Minus ws)
  Some (record { minus = sees m.Minus ws; digits = found.0 }, found.1)

unfoldable pub counted : ℕ → Count → Parser Limit
counted room count ws = do
  rest ← enter room ws
  name ← name_before m.Close rest
  Some (Counted count name.0, name.1)

unfoldable pub fixed : Parser Limit
fixed ws = do
  found ← literal 999999999 ws
  Some (Fixed found.0, found.1)

unfoldable pub limit : ℕ → Parser Limit
limit room (Sign m.TotOcc ∷ ws) = counted room c.TotOcc ws
limit room (Sign m.MaxOcc ∷ ws) = counted room c.MaxOcc ws
limit room ws = fixed ws

unfoldable pub step : Parser (Option Spelling)
step ws =
    if sees m.By ws then (do
      found ← take_number 1 999 (drop 1 ws)
      Some (Some found.0, found.1))
    else Some (None, ws)

-- the second name of the variable, which is the first but for letter case
unfoldable pub again : Spelling → Parser Spelling
again variable ws = do
  name ← take_name ws
  if str_eq_ignore_ascii_case variable.text name.0.text then Some (name.0, name.1) else None

-- what stands between a `do` and its body
unfoldable pub counting : ℕ → Parser Counting
counting room ws = do
  front ← expect m.Varying ws
  variable ← name_before m.Equals front
  start ← limit room variable.1
  until ← expect m.Until start.1
  second ← again variable.0 until
  more ← expect m.More second.1
  stop ← limit room more
  by ← step stop.1
  Some (record { variable = variable.0; start = start.0; again = second.0; stop = stop.0; by = by.0 }, by.1)

unfoldable pub message : Parser Message
message (Quoted text ∷ ws) = if is_text text.text then Some (Own text, ws) else None
message (Digits digits ∷ ws) = if is_within 0 MOST digits.text then Some (Numbered digits, ws) else None
message _ = None

-- ---- statements without others in them, with room for this many parentheses and statements
module _ (room : ℕ) where
  unfoldable pub assigned : Spelling → List Expr → Parser Stmt
  assigned name subs ws = do
    value ← expr_at room ws
    rest ← expect m.Semicolon value.1
    Some (Assign name (exprs subs) value.0, rest)

  abbrev pub has_some : {A : Type 0} → List A → Bool
  has_some [] = false
  has_some (x ∷ xs) = true

  -- after a name and what stands in parentheses behind it
  unfoldable pub called : Spelling → List Expr → Parser Stmt
  called name xs ws =
      if (sees m.Equals ws && has_some xs)
      then assigned name xs (drop 1 ws)
      else (do
        rest ← expect m.Semicolon ws
        Some (Call name (exprs xs), rest))

  -- after a name that begins a statement
  unfoldable pub named_stmt : Spelling → Parser Stmt
  named_stmt name ws =
      if sees m.Open ws then (do
        all ← arguments room (nested room) ws
        called name all.0 all.1)
      else (do
        rest ← expect m.Equals ws
        assigned name [] rest)

  unfoldable pub putdeck : Parser Stmt
  putdeck ws = do
    rest ← enter room ws
    name ← name_before m.Comma rest
    value ← nested room name.1
    behind ← ends m.Close value.1
    Some (PutDeck name.0 value.0, behind)

  -- further values, each after a comma
  unfoldable pub other_values : Parser (List Expr)
  other_values ws = if sees m.Comma ws then listed (nested room) (drop 1 ws) else Some ([], ws)

  unfoldable pub errmsg : Parser Stmt
  errmsg ws = do
    rest ← enter room ws
    what ← message rest
    values ← other_values what.1
    close ← expect m.Close values.1
    behind ← expect m.Semicolon (after m.Summary close)
    Some (ErrMsg what.0 (exprs values.0) (sees m.Summary close), behind)

  unfoldable pub jump : ℕ → Jump → Parser Stmt
  jump token which ws = do
    rest ← expect m.Semicolon ws
    Some (Jump' token which, rest)

-- in the parentheses of an `impute`, and up to its end
unfoldable pub imputed : ℕ → Parser Stmt
imputed room ws = do
  name ← take_name ws
  subs ← subscripts room (nested room) name.1
  comma ← expect m.Comma subs.1
  value ← expr_at room comma
  behind ← ends m.Close value.1
  Some (Impute name.0 (exprs subs.0) value.0, behind)

unfoldable pub impute : ℕ → Parser Stmt
impute zero ws = None
impute (suc room) ws = expect m.Open ws >>= imputed room

-- what stands between a `for` and its body: the variable and the record
unfoldable pub visiting : Parser (Spelling × Spelling)
visiting ws = do
  variable ← name_before m.In ws
  record_name ← name_before m.Do variable.1
  Some ((variable.0, record_name.0), record_name.1)

-- the heads of statements with others in them, with room for this many, the statement being one of them
unfoldable pub visiting_at : ℕ → Parser (Spelling × Spelling)
visiting_at zero ws = None
visiting_at (suc room) ws = visiting ws

unfoldable pub counting_at : ℕ → Parser Counting
counting_at zero ws = None
counting_at (suc room) ws = counting room ws

-- ---- statements with others in them, which body reads
module _ (room : ℕ) (body : Parser (List Stmt)) where
  unfoldable pub guarded : Parser (Expr × Stmts)
  guarded ws = do
    test ← nested room ws
    rest ← expect m.Then test.1
    found ← body rest
    Some ((test.0, stmts found.0), found.1)

  abbrev pub elseif : Parser (Expr × Stmts)
  elseif ws = expect m.ElseIf ws >>= guarded

  abbrev pub elseifs_from : ℕ → List (Expr × Stmts) → Parser (List (Expr × Stmts))
  elseifs_from = loop (sees m.ElseIf) elseif snoc

  unfoldable pub elseifs : Parser (List (Expr × Stmts))
  elseifs ws = elseifs_from (length ws) [] ws

  -- what is open, up to this word and a semicolon
  unfoldable pub body_to : Mark → Parser Stmts
  body_to mark ws = do
    found ← body ws
    behind ← ends mark found.1
    Some (stmts found.0, behind)

  -- the `else`, if it stands there, and the end of the `if`
  unfoldable pub otherwise : Parser Arms
  otherwise ws =
      if sees m.Else ws then (do
        found ← body_to m.EndIf (drop 1 ws)
        Some (else_of found.0, found.1))
      else (do
        behind ← ends m.EndIf ws
        Some (no_arm, behind))

  -- what stands behind the first arm of an `if`, and its end
  unfoldable pub alternatives : Parser Arms
  alternatives ws = do
    others ← elseifs ws
    last ← otherwise others.1
    Some (arms others.0 last.0, last.1)

  unfoldable pub conditional : Parser Stmt
  conditional ws = do
    first ← guarded ws
    others ← alternatives first.1
    Some (If first.0.0 first.0.1 others.0, others.1)

  unfoldable pub over : Parser Stmt
  over ws = do
    head ← visiting_at room ws
    found ← body_to m.EndDo head.1
    Some (For head.0.0 head.0.1 found.0, found.1)

  unfoldable pub repeated : Parser Stmt
  repeated ws = do
    head ← counting_at room ws
    found ← body_to m.EndDo head.1
    Some (Do head.0 found.0, found.1)

module _ (room : ℕ) (body : Parser (List Stmt)) where
  -- after a mark that begins a statement
  unfoldable pub marked_stmt : Mark → Parser Stmt
  marked_stmt m.Semicolon ws = Some (Empty, ws)
  marked_stmt m.If ws = conditional room body ws
  marked_stmt m.For ws = over room body ws
  marked_stmt m.Do ws = repeated room body ws
  marked_stmt m.Impute ws = impute room ws
  marked_stmt m.PutDeck ws = putdeck room ws
  marked_stmt m.ErrMsg ws = errmsg room ws
  marked_stmt _ ws = None

  unfoldable pub statement : Parser Stmt
  statement (Name name ∷ ws) = if is_name name.text then named_stmt room name ws else None
  statement (Leave token which ∷ ws) = jump room token which ws
  statement (Sign mark ∷ ws) = marked_stmt mark ws
  statement _ = None

  abbrev pub statements_from : ℕ → List Stmt → Parser (List Stmt)
  statements_from = loop starts_stmt statement snoc

  unfoldable pub statements : Parser (List Stmt)
  statements ws = statements_from (length ws) [] ws

-- the statements in one that is open, with room for this many
unfoldable pub body_at : ℕ → Parser (List Stmt)
body_at zero ws = None
body_at (suc room) ws = statements room (body_at room) ws

abbrev pub statements_at : ℕ → Parser (List Stmt)
statements_at room = statements room (body_at room)
