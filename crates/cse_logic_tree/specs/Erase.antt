-- The tree of syntax that a typed tree was made of: names without what they name.
use Rattle.std.specs.Prelude.{List, [], ◌∷◌, map, Option, Some, None}
use Rattle.std.specs.Option.{option_map}
use Rattle.cse_syntax_tree.specs.declared.tree.Function.TheVariants as f
use Rattle.cse_syntax_tree.specs.declared.tree.Query.TheVariants as q
use Rattle.cse_syntax_tree.specs.Tree as syntax
use Rattle.cse_logic_tree.specs.Typed.{Number, Words, Numbers, Operations, Constant, Special', Variable', Item, ItemAt, Cell, Call, Group, Int, IsSpecial, Deck, TotOcc, MaxOcc, CurOcc, InSet, Minus, Not, Compare, CompareTexts, Chain}
use Rattle.cse_logic_tree.specs.Typed.{Quoted, TextGlobal, TextItem, TextItemAt, TextGroup, no_number, number_and, no_operation, operation_and}
use Rattle.cse_logic_tree.specs.Typed.{Which, Here, At, Argument, OfNumber, OfWords, Whole, Limit, Fixed, Counted, Counting, Statement, Statements, Arms}
use Rattle.cse_logic_tree.specs.Typed.{Empty, Set, SetText, SetItem, SetTextItem, SetCell, CallOf, If, For, Do, Jump', Impute, PutDeck, ErrMsg, no_statement, statement_and, no_arm, else_of, arm}
use Rattle.cse_logic_tree.specs.Typed.{Dimension, Sized, Rows, Array, Function, Declaration, Numeric, Alpha, Array', Function', Body, Plain, Preproc, Both, Postproc, Procedure, Tree}

-- one subscript
abbrev pub subscript : syntax.Expr → syntax.Exprs
subscript x = syntax.expr_and x syntax.no_expr

abbrev mutual
  pub erase : Number → syntax.Expr
  erase (Constant digits value) = syntax.Number digits
  erase (Special' token value) = syntax.Special' token value
  erase (Variable' name variable) = syntax.Bare name
  erase (Item name item) = syntax.Bare name
  erase (ItemAt name field place) = syntax.Indexed name (subscript (erase place))
  erase (Cell name array subscripts) = syntax.Indexed name (erase_all subscripts)
  erase (Call name function arguments) = syntax.Indexed name (erase_all arguments)
  erase (Group x) = syntax.Group (erase x)
  erase (Int x) = syntax.Apply f.Int (erase x)
  erase (IsSpecial x) = syntax.Apply f.Special (erase x)
  erase (Deck name array picks) = syntax.Query' q.GetDeck name
  erase (TotOcc name of) = syntax.Query' q.TotOcc name
  erase (MaxOcc name of) = syntax.Query' q.MaxOcc name
  erase (CurOcc name of found) = syntax.Query' q.CurOcc name
  erase (InSet name item set_name set) = syntax.InValueSet name set_name
  erase (Minus x) = syntax.Minus (erase x)
  erase (Not x) = syntax.Not (erase x)
  erase (Compare relation x y) = syntax.Compare relation (erase x) (erase y)
  erase (CompareTexts relation x y) = syntax.Compare relation (erase_words x) (erase_words y)
  erase (Chain x others) = syntax.Chain (erase x) (erase_operations others)

  pub erase_words : Words → syntax.Expr
  erase_words (Quoted text) = syntax.Text text
  erase_words (TextGlobal name variable) = syntax.Bare name
  erase_words (TextItem name item) = syntax.Bare name
  erase_words (TextItemAt name field place) = syntax.Indexed name (subscript (erase place))
  erase_words (TextGroup x) = syntax.Group (erase_words x)

  pub erase_all : Numbers → syntax.Exprs
  erase_all no_number = syntax.no_expr
  erase_all (number_and x xs) = syntax.expr_and (erase x) (erase_all xs)

  pub erase_operations : Operations → syntax.Operations
  erase_operations no_operation = syntax.no_operation
  erase_operations (operation_and operator x xs) = syntax.operation_and operator (erase x) (erase_operations xs)

-- ---- statements

abbrev pub erase_which : Which → syntax.Exprs
erase_which (Here found) = syntax.no_expr
erase_which (At place) = subscript (erase place)

abbrev pub erase_argument : Argument → syntax.Expr
erase_argument (OfNumber x) = erase x
erase_argument (OfWords x) = erase_words x

abbrev pub erase_arguments : List Argument → syntax.Exprs
erase_arguments [] = syntax.no_expr
erase_arguments (x ∷ xs) = syntax.expr_and (erase_argument x) (erase_arguments xs)

abbrev pub erase_limit : Limit → syntax.Limit
erase_limit (Fixed x) = syntax.Fixed x.literal
erase_limit (Counted count name of) = syntax.Counted count name

abbrev pub erase_counting : Counting → syntax.Counting
erase_counting x = record { variable = x.name; start = erase_limit x.start; again = x.again; stop = erase_limit x.stop; by = x.by }

abbrev mutual
  pub erase_statement : Statement → syntax.Stmt
  erase_statement Empty = syntax.Empty
  erase_statement (Set name variable value) = syntax.Assign name syntax.no_expr (erase value)
  erase_statement (SetText name variable value) = syntax.Assign name syntax.no_expr (erase_words value)
  erase_statement (SetItem name field which value) = syntax.Assign name (erase_which which) (erase value)
  erase_statement (SetTextItem name field which value) = syntax.Assign name (erase_which which) (erase_words value)
  erase_statement (SetCell name array subscripts value) = syntax.Assign name (erase_all subscripts) (erase value)
  erase_statement (CallOf name function arguments) = syntax.Call name (erase_all arguments)
  erase_statement (If condition body others) = syntax.If (erase condition) (erase_block body) (erase_arms others)
  erase_statement (For name variable record_name of body) = syntax.For name record_name (erase_block body)
  erase_statement (Do counting body) = syntax.Do (erase_counting counting) (erase_block body)
  erase_statement (Jump' token jump) = syntax.Jump' token jump
  erase_statement (Impute name field which value) = syntax.Impute name (erase_which which) (erase value)
  erase_statement (PutDeck name array picks value) = syntax.PutDeck name (erase value)
  erase_statement (ErrMsg message index values summary) = syntax.ErrMsg message (erase_arguments values) summary

  pub erase_block : Statements → syntax.Stmts
  erase_block no_statement = syntax.no_stmt
  erase_block (statement_and x xs) = syntax.stmt_and (erase_statement x) (erase_block xs)

  pub erase_arms : Arms → syntax.Arms
  erase_arms no_arm = syntax.no_arm
  erase_arms (else_of body) = syntax.else_of (erase_block body)
  erase_arms (arm condition body others) = syntax.arm (erase condition) (erase_block body) (erase_arms others)

-- ---- sources

abbrev pub erase_dimension : Dimension → syntax.Dimension
erase_dimension (Sized digits size) = syntax.Sized digits
erase_dimension (Rows name set one_more size) = syntax.Rows name one_more

abbrev pub erase_array : Array → syntax.Array
erase_array x = record { name = x.name; dimensions = map erase_dimension x.dimensions; saved = x.saved; cells = map (λ c. c.literal) x.cells }

abbrev pub erase_declaration : Declaration → syntax.Declaration
erase_declaration (Numeric names) = syntax.Numeric names
erase_declaration (Alpha digits size names) = syntax.Alpha digits names
erase_declaration (Array' array) = syntax.Array' (erase_array array)
erase_declaration (Function' x) = syntax.Function' x.name x.parameters (erase_block x.body)

abbrev pub erase_body : Body → syntax.Body
erase_body (Plain xs) = syntax.Plain (erase_block xs)
erase_body (Preproc xs) = syntax.Preproc (erase_block xs)
erase_body (Both xs ys) = syntax.Both (erase_block xs) (erase_block ys)
erase_body (Postproc xs) = syntax.Postproc (erase_block xs)

abbrev pub erase_procedure : Procedure → syntax.Procedure
erase_procedure x = record { name = x.name; body = erase_body x.body }

abbrev pub erase_tree : Tree → syntax.Tree
erase_tree x = record { globals = option_map (λ ds. map erase_declaration ds) x.globals; procedures = map erase_procedure x.procedures }
